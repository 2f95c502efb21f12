-- The orders of a hedge have its variables, and blanks only where it has any; a hedge without an element has no more.
use mathlib.Core.Logic.{◌⊎◌, inl, inr}
use lib.Dec.{T}
use Rattle.language.specs.Trees.{Hedge, ε, tvar, hvar, node, ◌⧺◌, Var, holds}
use Rattle.rules.specs.Elements.{orders}
use Rattle.rules.specs.Each.{Each}
use Rattle.rules.proofs.Elements.{Without, Drawn, without-keeps, orders-by}
use Rattle.lines.specs.Matching.{ground}
use Rattle.lines.proofs.Variables.{holds_parts, holds-left, holds-right}
use Rattle.lines.proofs.Ground.{ground-parts, ground-node, ground-row}

ground-join : (h k : Hedge) → T (ground h) → T (ground k) → T (ground (h ⧺ k))
ground-join ε k s t = t
ground-join (tvar x r) k s t = absurd s
ground-join (hvar p r) k s t = absurd s
ground-join (node f c r) k s t = let (a, b, d) = ground-parts f c r s in ground-node f c (r ⧺ k) a b (ground-join r k d t)

-- ---- without an element

module _ (e h r : Hedge) (w : Without e h r) where
  pub without-ground : T (ground h) → T (ground e) × T (ground r)
  without-ground g = without-keeps (λ k. T (ground k)) ground-join ground-row e h r w g

  pub without-holds : (v : Var) → T (holds v h) → T (holds v e) ⊎ T (holds v r)
  without-holds v t = elim (holds_parts v w.before (e ⧺ w.behind) (rw w.whole at t)) [
    | inl s ↦ inr (rw w.left (holds-left v w.before w.behind s))
    | inr s ↦ elim (holds_parts v e w.behind s) [ inl u ↦ inl u | inr u ↦ inr (rw w.left (holds-right v w.before w.behind u)) ]
  ]

  -- an element and what is left stand in the hedge
  pub holds-without : (v : Var) → T (holds v e) ⊎ T (holds v r) → T (holds v h)
  holds-without v (inl t) = rw w.whole (holds-right v w.before (e ⧺ w.behind) (holds-left v e w.behind t))
  holds-without v (inr t) = elim (holds_parts v w.before w.behind (rw w.left at t)) [
    | inl s ↦ rw w.whole (holds-left v w.before (e ⧺ w.behind) s)
    | inr s ↦ rw w.whole (holds-right v w.before (e ⧺ w.behind) (holds-right v e w.behind s))
  ]

-- ---- in another order

-- k has no blanks where h has none, and the same variables
pub record Like (h k : Hedge) : Type 0 where
  pub plain : T (ground h) → T (ground k)
  pub more : (v : Var) → T (holds v h) → T (holds v k)
  pub fewer : (v : Var) → T (holds v k) → T (holds v h)

like-next : (h : Hedge) (a : Hedge × Hedge) (k : Hedge) → Drawn h a → Like a.1 k → Like h (a.0 ⧺ k)
like-next h a k d i =
    let w = d.out in
    record {
      plain = λ g. let (x, y) = without-ground a.0 h a.1 w g in ground-join a.0 k x (i.plain y);
      more = λ v t. elim (without-holds a.0 h a.1 w v t) [ inl s ↦ holds-left v a.0 k s | inr s ↦ holds-right v a.0 k (i.more v s) ];
      fewer = λ v t. elim (holds_parts v a.0 k t) [ inl s ↦ holds-without a.0 h a.1 w v (inl s) | inr s ↦ holds-without a.0 h a.1 w v (inr (i.fewer v s)) ];
    }

pub orders-like : (h : Hedge) → Each (Like h) (orders h)
orders-like = orders-by Like (record { plain = λ t. t; more = λ v t. t; fewer = λ v t. t }) like-next
