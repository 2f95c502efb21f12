-- Which complete hedge can stand where a word stands.
use Prim.Native.Nat.{ℕ, ◌+◌, ◌-◌, ◌<◌, ◌≤◌}
use mathlib.Core.Path.{◌≡◌}
use mathlib.Core.List.{List}
use native.Mathlib.Omega.{arith}
use lib.ListN.{length, get_or}
use Rattle.language.specs.declared.Sym.{Sym}
use Rattle.meaning.specs.Complete.{Complete, nil, tree}
use Rattle.passing.specs.Places.{size_c, Holds, at-nil, at-tree, Hedge, Term, Skipped}

pub holds-lt : {h : List ℕ} {j : ℕ} {g : Complete} → Holds h j g → j < length h
holds-lt (at-nil l w) = l
holds-lt (at-tree l w p q) = l

pub holds_fits : {h : List ℕ} {j : ℕ} {g : Complete} → Holds h j g → j + size_c g ≤ length h
holds_fits (at-nil l w) = omega arith
holds_fits (at-tree l w p q) = omega (arith, holds_fits q)

pub hedge-lt : {h : List ℕ} {j : ℕ} → Hedge h j → j < length h
hedge-lt p = holds-lt p.here

pub term-lt : {h : List ℕ} {j : ℕ} → Term h j → j < length h
term-lt p = holds-lt p.here

module _ {h : List ℕ} {j : ℕ} where
  pub by-nil : (P : Complete → Type 0) → get_or h j 0 ≡ 0 → P nil → (g : Complete) → Holds h j g → P g
  by-nil P w x nil (at-nil l v) = x
  by-nil P w x (tree f c r) (at-tree l v p q) = absurd (omega arith)

  pub by-tree : (P : Complete → Type 0) → (get_or h j 0 ≡ 0 → ⊥) → ((f : Sym) (c r : Complete) → get_or h j 0 ≡ 3000 + f.0 → Holds h (j + 1) c → Holds h (j + 1 + size_c c) r → P (tree f c r)) → (g : Complete) → Holds h j g → P g
  by-tree P w x nil (at-nil l v) = absurd (w v)
  by-tree P w x (tree f c r) (at-tree l v p q) = x f c r v p q

module _ {h : List ℕ} {j : ℕ} where
  pub children : Hedge h j → (get_or h j 0 ≡ 0 → ⊥) → Hedge h (j + 1)
  children p n = by-tree (λ _. Hedge h (j + 1)) n (λ f c r v x y. record { g = c; here = x }) p.g p.here

  pub rest : {n : ℕ} → Hedge h j → (get_or h j 0 ≡ 0 → ⊥) → Skipped h (j + 1) n → Hedge h n
  rest {n} p w s = by-tree (λ _. Hedge h n) w (λ f c r v x y. record { g = r; here = rw (s.each c x) y }) p.g p.here

  pub skipped-less : {n : ℕ} → Skipped h (j + 1) n → Hedge h j → (get_or h j 0 ≡ 0 → ⊥) → length h - n < length h - j
  skipped-less s p w = let q = children p w in omega (arith, s.each q.g q.here, holds-lt p.here)

  pub term-here : Hedge h j → (get_or h j 0 ≡ 0 → ⊥) → Term h j
  term-here p w = by-tree (λ g. Term h j) w (λ f c r v x y. record { f = f; c = c; r = r; here = at-tree (holds-lt p.here) v x y }) p.g p.here

-- ---- the parts of a term

pub child : {h : List ℕ} {j : ℕ} {f : Sym} {c r : Complete} → Holds h j (tree f c r) → Holds h (j + 1) c
child (at-tree l w p q) = p

pub word : {h : List ℕ} {j : ℕ} {f : Sym} {c r : Complete} → Holds h j (tree f c r) → get_or h j 0 ≡ 3000 + f.0
word (at-tree l w p q) = w

pub term-word : {h : List ℕ} {j : ℕ} → Term h j → 3000 ≤ get_or h j 0
term-word p = omega (arith, word p.here)

pub behind : {h : List ℕ} {j : ℕ} {f : Sym} {c r : Complete} → Holds h j (tree f c r) → Holds h (j + 1 + size_c c) r
behind (at-tree l w p q) = q

pub children-of : {h : List ℕ} {j : ℕ} → Term h j → Hedge h (j + 1)
children-of p = record { g = p.c; here = child p.here }
