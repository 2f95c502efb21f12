-- Which expression, with marks or without, can stand where a word stands.
use Prim.Native.Nat.{ℕ, ◌+◌, ◌-◌, ◌<◌, ◌≤◌}
use mathlib.Core.Path.{◌≡◌}
use mathlib.Core.Bool.{Bool}
use mathlib.Core.List.{List}
use native.Mathlib.Omega.{arith}
use lib.ListN.{length, get_or}
use Rattle.language.specs.declared.Sym.{Sym}
use Rattle.language.specs.Trees.{Expr, eps, cat, alt, star, over}
use Rattle.member.specs.declared.Seen.{Seen}
use Rattle.member.specs.Marks.{Marked, meps, mcat, malt, mstar, mover, bare}
use Rattle.any_order.specs.Places.{size_e, At, at-eps, at-cat, at-alt, at-star, at-over, Expression}
use Rattle.member.specs.Places.{Looked}
use Rattle.member.specs.Gathering.{Symbol}
use Rattle.any_order.proofs.Standing.{at_lt, at-fits, first, by-eps, by-cat, by-alt, by-star, by_over}

-- ---- by the word

module _ {e : List ℕ} {at : ℕ} where
  -- of an expression with marks
  pub m-eps : (P : Marked → Type 0) → get_or e at 0 ≡ 7000 → P meps → (M : Marked) → At e at (bare M) → P M
  m-eps P w x meps (at-eps l v) = x
  m-eps P w x (mcat a b) (at-cat l v p q) = absurd (omega arith)
  m-eps P w x (malt a b) (at-alt l v p q) = absurd (omega arith)
  m-eps P w x (mstar a) (at-star l v p) = absurd (omega arith)
  m-eps P w x (mover m f a) (at-over l v u p) = absurd (omega arith)

  pub m-cat : (P : Marked → Type 0) → get_or e at 0 ≡ 7001 → ((a b : Marked) → At e (at + 1) (bare a) → At e (at + 1 + size_e (bare a)) (bare b) → P (mcat a b)) → (M : Marked) → At e at (bare M) → P M
  m-cat P w x meps (at-eps l v) = absurd (omega arith)
  m-cat P w x (mcat a b) (at-cat l v p q) = x a b p q
  m-cat P w x (malt a b) (at-alt l v p q) = absurd (omega arith)
  m-cat P w x (mstar a) (at-star l v p) = absurd (omega arith)
  m-cat P w x (mover m f a) (at-over l v u p) = absurd (omega arith)

  pub m-alt : (P : Marked → Type 0) → get_or e at 0 ≡ 7002 → ((a b : Marked) → At e (at + 1) (bare a) → At e (at + 1 + size_e (bare a)) (bare b) → P (malt a b)) → (M : Marked) → At e at (bare M) → P M
  m-alt P w x meps (at-eps l v) = absurd (omega arith)
  m-alt P w x (mcat a b) (at-cat l v p q) = absurd (omega arith)
  m-alt P w x (malt a b) (at-alt l v p q) = x a b p q
  m-alt P w x (mstar a) (at-star l v p) = absurd (omega arith)
  m-alt P w x (mover m f a) (at-over l v u p) = absurd (omega arith)

  pub m-star : (P : Marked → Type 0) → get_or e at 0 ≡ 7003 → ((a : Marked) → At e (at + 1) (bare a) → P (mstar a)) → (M : Marked) → At e at (bare M) → P M
  m-star P w x meps (at-eps l v) = absurd (omega arith)
  m-star P w x (mcat a b) (at-cat l v p q) = absurd (omega arith)
  m-star P w x (malt a b) (at-alt l v p q) = absurd (omega arith)
  m-star P w x (mstar a) (at-star l v p) = x a p
  m-star P w x (mover m f a) (at-over l v u p) = absurd (omega arith)

  pub m-over : (P : Marked → Type 0) → get_or e at 0 < 7000 → ((m : Bool) (f : Sym) → get_or e at 0 ≡ 3000 + f.0 → (a : Expr) → At e (at + 1) a → P (mover m f a)) → (M : Marked) → At e at (bare M) → P M
  m-over P w x meps (at-eps l v) = absurd (omega arith)
  m-over P w x (mcat a b) (at-cat l v p q) = absurd (omega arith)
  m-over P w x (malt a b) (at-alt l v p q) = absurd (omega arith)
  m-over P w x (mstar a) (at-star l v p) = absurd (omega arith)
  m-over P w x (mover m f a) (at-over l v u p) = x m f v a p

  pub m-symbol : (P : Marked → Type 0) → get_or e at 0 < 7000 → ((m : Bool) (g : Sym) (S : Expr) → At e at (over g S) → P (mover m g S)) → (M : Marked) → At e at (bare M) → P M
  m-symbol P w x meps (at-eps l v) = absurd (omega arith)
  m-symbol P w x (mcat a b) (at-cat l v p q) = absurd (omega arith)
  m-symbol P w x (malt a b) (at-alt l v p q) = absurd (omega arith)
  m-symbol P w x (mstar a) (at-star l v p) = absurd (omega arith)
  m-symbol P w x (mover m f a) (at-over l v u p) = x m f a (at-over l v u p)

  pub symbol-at : Expression e at → get_or e at 0 < 7000 → Symbol e at
  symbol-at p w = go p.here
    where
      go : {R : Expr} → At e at R → Symbol e at
      go (at-eps l v) = absurd (omega arith)
      go (at-cat l v x y) = absurd (omega arith)
      go (at-alt l v x y) = absurd (omega arith)
      go (at-star l v x) = absurd (omega arith)
      go (at-over {f = f} {a = a} l v u x) = record { g = f; S = a; here = at-over l v u x }

  pub by-symbol : (P : Expr → Type 0) → get_or e at 0 < 7000 → ((g : Sym) (S : Expr) → At e at (over g S) → P (over g S)) → (R : Expr) → At e at R → P R
  by-symbol P w x eps (at-eps l v) = absurd (omega arith)
  by-symbol P w x (cat a b) (at-cat l v p q) = absurd (omega arith)
  by-symbol P w x (alt a b) (at-alt l v p q) = absurd (omega arith)
  by-symbol P w x (star a) (at-star l v p) = absurd (omega arith)
  by-symbol P w x (over f a) (at-over l v u p) = x f a (at-over l v u p)

  pub symbol-word : {g : Sym} {S : Expr} → At e at (over g S) → get_or e at 0 ≡ 3000 + g.0
  symbol-word (at-over l v u p) = v

  pub under : {g : Sym} {S : Expr} → At e at (over g S) → At e (at + 1) S
  under (at-over l v u p) = p

  pub looked-end : {s : Seen} → Looked e at s → (R : Expr) → At e at R → s.end ≡ at + size_e R
  looked-end l R x = (l.each R x).0

  -- the measure falls at the second
  pub looked-falls : {s : Seen} {t : ℕ} → length e - at ≡ t → Looked e (at + 1) s → Expression e at → (get_or e at 0 ≡ 7000 → ⊥) → length e - s.end < t
  looked-falls z l p n = let q = first p n in omega (arith, (l.each q.R q.here).0, at_lt p.here)

  pub looked-within : {n : ℕ} {s : Seen} → Looked e at s → Expression e at → length e ≤ n → (at ≤ s.end) × (s.end ≤ n)
  looked-within l p le = let z = (l.each p.R p.here).0 in let f = at-fits p.here in (omega arith, omega arith)

-- what stands at a place has one size
pub at_size : {e : List ℕ} {at : ℕ} {R S : Expr} → At e at R → At e at S → size_e R ≡ size_e S
at_size {S = S} (at-eps l v) y = by-eps (λ R. 1 ≡ size_e R) v (omega arith) S y
at_size {S = S} (at-cat {a = a} {b = b} l v p q) y = by-cat (λ R. 1 + size_e a + size_e b ≡ size_e R) v (λ c d u w. let z = at_size p u in omega (arith, at_size {S = d} q (rw z w))) S y
at_size {S = S} (at-alt {a = a} {b = b} l v p q) y = by-alt (λ R. 1 + size_e a + size_e b ≡ size_e R) v (λ c d u w. let z = at_size p u in omega (arith, at_size {S = d} q (rw z w))) S y
at_size {S = S} (at-star {a = a} l v p) y = by-star (λ R. 1 + size_e a ≡ size_e R) v (λ c u. omega (arith, at_size p u)) S y
at_size {S = S} (at-over {a = a} l v n p) y = by_over (λ R. 1 + size_e a ≡ size_e R) (omega arith) (λ f w c u. omega (arith, at_size p u)) S y
