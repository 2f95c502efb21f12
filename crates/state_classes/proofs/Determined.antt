-- Any two outcomes that the contract of `class_all` allows coincide.
use Prim.Native.Nat.{ℕ, ◌+◌, ◌*◌, ◌≤◌}
use mathlib.Core.Path.{◌≡◌, sym, ap, ◌∙◌}
use mathlib.Core.Logic.{inl, inr}
use mathlib.Core.List.{List}
use native.Mathlib.Omega.{arith}
use native.Mathlib.Decide.{dec_le}
use lib.ListN.{get_or}
use lib.Seq.{ext_get_or}
use Rattle.language.specs.Trees.{Expr}
use Rattle.language.proofs.Determined.{Determined}
use Rattle.state_classes.specs.States.{Means}
use Rattle.state_classes.specs.Classes.{FirstState, Tabled, KeptTo, Changed, Expressed}
use Rattle.state_classes.proofs.Classing.{state-to}
use Rattle.state_classes.specs.contracts.class_all as class_all-contract
use Rattle.state_classes.proofs.class_all.Reads as class_all-reads

-- the first of the states that mean the same is one
first_one : {at : ℕ} {R X : Expr} {c d : ℕ} → FirstState at R c X → FirstState at R d X → c ≡ d
first_one {c = c} {d = d} x y = go (dec_le c d) (dec_le d c)
  where
    go : Dec (c ≤ d) → Dec (d ≤ c) → c ≡ d
    go (yes a) (yes b) = omega arith
    go (yes a) (no b) = absurd (y.least c (omega arith) x.means)
    go (no a) b = absurd (x.least d (omega arith) y.means)

same-table : {k old a b : List ℕ} {at end : ℕ} → Expressed k at end → Tabled k at (2 * end + 1) a → Tabled k at (2 * end + 1) b → KeptTo (2 * at) old a → KeptTo (2 * at) old b
    → Changed k at (2 * end + 1) old a → Changed k at (2 * end + 1) old b → a ≡ b
same-table {k} {old} {a} {b} {at} {end} x s t l m c d = ext_get_or 0 a b (l.long ∙ sym m.long) (λ i _. go i)
  where
    R : Expr
    R = x.expression

    stated : (i : ℕ) (X : Expr) → Means at R i X → get_or a i 0 ≡ get_or b i 0
    stated i X n =
        let e = state-to at R i X n in
        let f = x.to in
        first_one (s.each R x.beyond x.here i (omega arith) X n) (t.each R x.beyond x.here i (omega arith) X n)

    go : (i : ℕ) → get_or a i 0 ≡ get_or b i 0
    go i =
        let f = x.to in
        elim (c.each R x.beyond x.here (omega arith) i) [
          | inl e ↦ elim (d.each R x.beyond x.here (omega arith) i) [ inl g ↦ e ∙ sym g | inr (X, n) ↦ stated i X n ]
          | inr (X, n) ↦ stated i X n
        ]

class_all-determined : Determined class_all-contract.ended class_all-reads.Pre class_all-reads.Post
class_all-determined κs a p o q e d = ap (λ s. (tt, (tt, (tt, (tt, (s, tt)))))) (same-table p.3 e.0 d.0 e.1 d.1 e.2 d.2)
