-- States as tails, and two of them compared.
use Prim.Native.Nat.{ℕ, ◌+◌, ◌/◌, ◌%◌}
use mathlib.Core.Path.{◌≡◌, sym, ap, subst, ◌∙◌}
use mathlib.Core.Logic.{inl, inr}
use mathlib.Core.Bool.{Bool, true, false}
use mathlib.Core.List.{List}
use native.Mathlib.Omega.{arith}
use Rattle.language.specs.Trees.{Expr}
use Rattle.expressions.specs.Standing.{Here}
use Rattle.walk.specs.Spots.{whole, inner_at}
use Rattle.state_classes.specs.declared.tails.Tail.{Tail}
use Rattle.charts.specs.Levels.{place_of, sought, Leveled}
use Rattle.state_classes.specs.States.{Means, itself, inside, after}
use Rattle.state_classes.specs.Tails.{Left, Same, TailOf, SameState}
use Rattle.state_classes.proofs.Meanings.{Stands, spot-inside, spotted-place, spotted-stands}

pub tail-even : {k : List ℕ} {at s x : ℕ} → s % 2 ≡ 0 → x ≡ s / 2 → TailOf k at s (record { at = x; symbol = 0; rest = false })
tail-even {k} {at} {s} {x} z d = record { each = λ R w h X m. go R w h X m }
  where
    from : (X : Expr) (y : ℕ) → x ≡ y → Stands k y X → (w : List ℕ) × Here k x X w
    from X y e (w, h) = (w, subst (λ m. Here k m X w) (sym e) h)

    go : (R : Expr) (w : List ℕ) → Here k at R w → (X : Expr) → Means at R s X → (w : List ℕ) × Here k x X w
    go R w h X (itself e i) = rw i (from R at (omega arith) (w, h))
    go R w h X (inside j l p t e i) =
        rw i (from (inner_at p) (j + 1) (omega arith) (subst (λ m. Stands k (m + 1) (inner_at p)) (spotted-place at R j l p t) (spot-inside k l p (spotted-stands at R j l p t k (w, h)))))
    go R w h X (after j l p t e i) = absurd (omega arith)

pub tail-odd : {k : List ℕ} {at s x m : ℕ} → (s % 2 ≡ 0 → ⊥) → x ≡ s / 2 → Leveled k at x m → TailOf k at s (record { at = m; symbol = x; rest = true })
tail-odd {k} {at} {s} {x} {m} z d g = record { each = λ R w h X n. go R w h X n }
  where
    go : (R : Expr) (w : List ℕ) → Here k at R w → (X : Expr) → Means at R s X → Left k m x X
    go R w h X (itself e i) = absurd (z (omega arith))
    go R w h X (inside j l p t e i) = absurd (z (omega arith))
    go R w h X (after j l p t e i) =
        let y : x ≡ j = omega arith in
        let n : m ≡ l = elim t [ inl (c, f) ↦ g.top R w h p (ap (sought at R) y ∙ f) ∙ sym c | inr f ↦ g.deeper R w h l p (ap (sought at R) y ∙ f) ] in
        let (v, u) = spotted-stands at R j l p t k (w, h) in
        record { spot = p; beyond = v; stands = subst (λ m. Here k m (whole p) v) (sym n) u; place = ap (λ m. place_of m p) n ∙ spotted-place at R j l p t ∙ sym y; is = i }

pub same-states : {k : List ℕ} {at s t : ℕ} {a b : Tail} {r : Bool} → TailOf k at s a → TailOf k at t b → Same k a b r → SameState k at s t r
same-states x y z = record { each = λ R w h X Y m n. z.each X Y (x.each R w h X m) (y.each R w h Y n) }
