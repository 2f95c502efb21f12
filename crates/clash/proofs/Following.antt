-- What follows a state: the symbols of what it means that can be read next.
use Prim.Native.Nat.{ℕ, ◌+◌, ◌/◌, ◌%◌}
use mathlib.Core.Path.{◌≡◌, refl, sym, ap, subst, ◌∙◌}
use mathlib.Core.Logic.{inl, inr}
use mathlib.Core.Bool.{Bool}
use mathlib.Core.List.{List}
use native.Mathlib.Omega.{arith}
use Rattle.language.specs.Trees.{Expr}
use Rattle.rules.proofs.Each.{each_in}
use Rattle.expressions.specs.declared.Part.{Part}
use Rattle.expressions.specs.Standing.{Here, Parted}
use Rattle.walk.specs.Spots.{Spot, whole, inner_at, firsts, nexts}
use Rattle.walk.proofs.Continuations.{firsts-of, nexts-of, first-monomials, next-monomials}
use Rattle.charts.specs.Levels.{place_of, on_top, sought, Leveled}
use Rattle.charts.proofs.Places.{sought-top}
use Rattle.state_classes.specs.States.{Spotted, Means, itself, inside, after}
use Rattle.state_classes.proofs.Meanings.{Stands, spot-inside, spotted-place, spotted-stands, spotted-beside, spotted-inside}
use Rattle.clash.specs.Marks.{places_of, marked, Begun, Resumed}
use Rattle.clash.specs.Following.{Nexts, FollowedBy, Followed}

next-first : (at : ℕ) (R X : Expr) (l : ℕ) → ((q : Spot) → whole q ≡ X → Spotted at R (place_of l q) l q) → Nexts at R X l (firsts X)
next-first at R X l f = record { monomials = first-monomials X; spotted = λ q m. f q (each_in (λ q. whole q ≡ X) (firsts-of X) m) }

-- twice a place
pub followed-even : {k : List ℕ} {at s x : ℕ} {old new : List Bool} {q : Part} → s % 2 ≡ 0 → x ≡ s / 2 → Begun k x old new → Parted k x q → Followed k at s old new q.null
followed-even {k} {at} {s} {x} {old} {new} {q} z d b a = record { long = b.long; each = λ R w h X m. go R w h X m }
  where
    from : (R X : Expr) (y : ℕ) → x ≡ y → Stands k y X → ((q : Spot) → whole q ≡ X → Spotted at R (place_of y q) y q) → FollowedBy at R X old new q.null
    from R X y e (w, h) f =
        let g = subst (λ m. Here k m X w) (sym e) h in
        record { level = y; spots = firsts X; nexts = next-first at R X y f; marks = b.each X w g ∙ ap (λ m. marked (places_of m (firsts X)) old) e; null = (a.each X w g).null }

    go : (R : Expr) (w : List ℕ) → Here k at R w → (X : Expr) → Means at R s X → FollowedBy at R X old new q.null
    go R w h X (itself e i) = rw i (from R R at (omega arith) (w, h) (λ q v. inl (refl, subst (λ A. sought at A (place_of at q) ≡ on_top q) v (sought-top at q))))
    go R w h X (inside j l p t e i) =
        rw i (from R (inner_at p) (j + 1) (omega arith) (subst (λ m. Stands k (m + 1) (inner_at p)) (spotted-place at R j l p t) (spot-inside k l p (spotted-stands at R j l p t k (w, h)))) (spotted-inside at R j l p t))
    go R w h X (after j l p t e i) = absurd (omega arith)

-- and one more
pub followed-odd : {k : List ℕ} {at s x m : ℕ} {old new : List Bool} {r : Bool} → (s % 2 ≡ 0 → ⊥) → x ≡ s / 2 → Leveled k at x m → Resumed k m x old new r → Followed k at s old new r
followed-odd {k} {at} {s} {x} {m} {old} {new} {r} z d g b = record { long = b.long; each = λ R w h X n. go R w h X n }
  where
    go : (R : Expr) (w : List ℕ) → Here k at R w → (X : Expr) → Means at R s X → FollowedBy at R X old new r
    go R w h X (itself e i) = absurd (z (omega arith))
    go R w h X (inside j l p t e i) = absurd (z (omega arith))
    go R w h X (after j l p t e i) =
        let y : x ≡ j = omega arith in
        let n : m ≡ l = elim t [ inl (c, f) ↦ g.top R w h p (ap (sought at R) y ∙ f) ∙ sym c | inr f ↦ g.deeper R w h l p (ap (sought at R) y ∙ f) ] in
        let (v, u) = spotted-stands at R j l p t k (w, h) in
        let (a, c) = b.each p v (subst (λ m. Here k m (whole p) v) (sym n) u) (ap (λ m. place_of m p) n ∙ spotted-place at R j l p t ∙ sym y) in
        rw i (record {
          level = l;
          spots = nexts p;
          nexts = record { monomials = next-monomials p; spotted = λ q o. spotted-beside at R j l p t q (each_in (λ q. whole q ≡ whole p) (nexts-of p) o) };
          marks = a ∙ ap (λ m. marked (places_of m (nexts p)) old) n;
          null = c;
        })
