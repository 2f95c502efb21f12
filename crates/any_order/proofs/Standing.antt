-- Which expression can stand where a word stands.
use Prim.Native.Nat.{ℕ, ◌+◌, ◌-◌, ◌<◌, ◌≤◌}
use mathlib.Core.Path.{◌≡◌}
use mathlib.Core.List.{List}
use native.Mathlib.Omega.{arith}
use lib.ListN.{length, get_or}
use Rattle.language.specs.declared.Sym.{Sym}
use Rattle.language.specs.Trees.{Expr, eps, cat, alt, star, over}
use Rattle.any_order.specs.Places.{size_e, At, at-eps, at-cat, at-alt, at-star, at-over, Expression}
use Rattle.any_order.specs.Searching.{Past}

pub at_lt : {e : List ℕ} {at : ℕ} {R : Expr} → At e at R → at < length e
at_lt (at-eps l w) = l
at_lt (at-cat l w p q) = l
at_lt (at-alt l w p q) = l
at_lt (at-star l w p) = l
at_lt (at-over l w u p) = l

pub expression-lt : {e : List ℕ} {at : ℕ} → Expression e at → at < length e
expression-lt p = at_lt p.here

pub at-fits : {e : List ℕ} {at : ℕ} {R : Expr} → At e at R → at + size_e R ≤ length e
at-fits (at-eps l w) = omega arith
at-fits (at-cat l w p q) = omega (arith, at-fits q)
at-fits (at-alt l w p q) = omega (arith, at-fits q)
at-fits (at-star l w p) = omega (arith, at-fits p)
at-fits (at-over l w u p) = omega (arith, at-fits p)

-- ---- by the word

module _ {e : List ℕ} {at : ℕ} where
  pub by-eps : (P : Expr → Type 0) → get_or e at 0 ≡ 7000 → P eps → (R : Expr) → At e at R → P R
  by-eps P w x eps (at-eps l v) = x
  by-eps P w x (cat a b) (at-cat l v p q) = absurd (omega arith)
  by-eps P w x (alt a b) (at-alt l v p q) = absurd (omega arith)
  by-eps P w x (star a) (at-star l v p) = absurd (omega arith)
  by-eps P w x (over f a) (at-over l v u p) = absurd (omega arith)

  pub by-cat : (P : Expr → Type 0) → get_or e at 0 ≡ 7001 → ((a b : Expr) → At e (at + 1) a → At e (at + 1 + size_e a) b → P (cat a b)) → (R : Expr) → At e at R → P R
  by-cat P w x eps (at-eps l v) = absurd (omega arith)
  by-cat P w x (cat a b) (at-cat l v p q) = x a b p q
  by-cat P w x (alt a b) (at-alt l v p q) = absurd (omega arith)
  by-cat P w x (star a) (at-star l v p) = absurd (omega arith)
  by-cat P w x (over f a) (at-over l v u p) = absurd (omega arith)

  pub by-alt : (P : Expr → Type 0) → get_or e at 0 ≡ 7002 → ((a b : Expr) → At e (at + 1) a → At e (at + 1 + size_e a) b → P (alt a b)) → (R : Expr) → At e at R → P R
  by-alt P w x eps (at-eps l v) = absurd (omega arith)
  by-alt P w x (cat a b) (at-cat l v p q) = absurd (omega arith)
  by-alt P w x (alt a b) (at-alt l v p q) = x a b p q
  by-alt P w x (star a) (at-star l v p) = absurd (omega arith)
  by-alt P w x (over f a) (at-over l v u p) = absurd (omega arith)

  pub by-star : (P : Expr → Type 0) → get_or e at 0 ≡ 7003 → ((a : Expr) → At e (at + 1) a → P (star a)) → (R : Expr) → At e at R → P R
  by-star P w x eps (at-eps l v) = absurd (omega arith)
  by-star P w x (cat a b) (at-cat l v p q) = absurd (omega arith)
  by-star P w x (alt a b) (at-alt l v p q) = absurd (omega arith)
  by-star P w x (star a) (at-star l v p) = x a p
  by-star P w x (over f a) (at-over l v u p) = absurd (omega arith)

  pub by_over : (P : Expr → Type 0) → get_or e at 0 < 7000 → ((f : Sym) → get_or e at 0 ≡ 3000 + f.0 → (a : Expr) → At e (at + 1) a → P (over f a)) → (R : Expr) → At e at R → P R
  by_over P w x eps (at-eps l v) = absurd (omega arith)
  by_over P w x (cat a b) (at-cat l v p q) = absurd (omega arith)
  by_over P w x (alt a b) (at-alt l v p q) = absurd (omega arith)
  by_over P w x (star a) (at-star l v p) = absurd (omega arith)
  by_over P w x (over f a) (at-over l v u p) = x f v a p

  -- what the tests of the code leave
  pub is-alt : Expression e at → (get_or e at 0 ≡ 7000 → ⊥) → (get_or e at 0 ≡ 7003 → ⊥) → 7000 ≤ get_or e at 0 → (get_or e at 0 ≡ 7001 → ⊥) → get_or e at 0 ≡ 7002
  is-alt p n0 n3 lo n1 = go p.here
    where
      go : {R : Expr} → At e at R → get_or e at 0 ≡ 7002
      go (at-eps l w) = absurd (n0 w)
      go (at-cat l w x y) = absurd (n1 w)
      go (at-alt l w x y) = w
      go (at-star l w x) = absurd (n3 w)
      go (at-over l w u x) = absurd (omega arith)

  -- all but eps have an expression after their word
  pub first : Expression e at → (get_or e at 0 ≡ 7000 → ⊥) → Expression e (at + 1)
  first p n = go p.here
    where
      go : {R : Expr} → At e at R → Expression e (at + 1)
      go (at-eps l w) = absurd (n w)
      go (at-cat {a = a} l w x y) = record { R = a; here = x }
      go (at-alt {a = a} l w x y) = record { R = a; here = x }
      go (at-star {a = a} l w x) = record { R = a; here = x }
      go (at-over {a = a} l w u x) = record { R = a; here = x }

  -- and those of 7001 and 7002 a second one, at the place n after the first
  pub second : {n : ℕ} → Expression e at → (get_or e at 0 ≡ 7000 → ⊥) → 7000 ≤ get_or e at 0 → (get_or e at 0 ≡ 7003 → ⊥)
      → ((R : Expr) → At e (at + 1) R → n ≡ at + 1 + size_e R) → Expression e n
  second {n} p n0 lo n3 z = go p.here
    where
      go : {R : Expr} → At e at R → Expression e n
      go (at-eps l w) = absurd (n0 w)
      go (at-cat {a = a} {b = b} l w x y) = record { R = b; here = rw (z a x) y }
      go (at-alt {a = a} {b = b} l w x y) = record { R = b; here = rw (z a x) y }
      go (at-star l w x) = absurd (n3 w)
      go (at-over l w u x) = absurd (omega arith)

  -- the measure falls at the second
  pub less : {n t : ℕ} → length e - at ≡ t → ((R : Expr) → At e (at + 1) R → n ≡ at + 1 + size_e R) → Expression e at → (get_or e at 0 ≡ 7000 → ⊥) → length e - n < t
  less z l p n = let q = first p n in omega (arith, l q.R q.here, at_lt p.here)

-- ---- the place after it

module _ {e : List ℕ} {at : ℕ} where
  pub past-each : {n : ℕ} → Past e at n → (R : Expr) → At e at R → n ≡ at + size_e R
  past-each p = p.each

  pub past-eps : get_or e at 0 ≡ 7000 → Past e at (at + 1)
  past-eps w = record { each = by-eps _ w (omega arith) }

  pub past-over : {n : ℕ} → get_or e at 0 < 7000 → Past e (at + 1) n → Past e at n
  past-over w p = record { each = by_over _ w (λ f v a x. omega (arith, p.each a x)) }

  pub past-star : {n : ℕ} → get_or e at 0 ≡ 7003 → Past e (at + 1) n → Past e at n
  past-star w p = record { each = by-star _ w (λ a x. omega (arith, p.each a x)) }

  -- 7001 and 7002
  pub past_two : {n m : ℕ} → Expression e at → (get_or e at 0 ≡ 7000 → ⊥) → 7000 ≤ get_or e at 0 → (get_or e at 0 ≡ 7003 → ⊥) → Past e (at + 1) n → Past e n m → Past e at m
  past_two {n} {m} p n0 lo n3 x y = record { each = λ R z. go z }
    where
      go : {R : Expr} → At e at R → m ≡ at + size_e R
      go (at-eps l w) = absurd (n0 w)
      go (at-cat {a = a} {b = b} l w u v) = omega (arith, x.each a u, y.each b (rw (x.each a u) v))
      go (at-alt {a = a} {b = b} l w u v) = omega (arith, x.each a u, y.each b (rw (x.each a u) v))
      go (at-star l w u) = absurd (n3 w)
      go (at-over l w u v) = absurd (omega arith)
