-- Numbers and refusals: the first of some faults is one.
use Prim.Native.Nat.{ℕ, ◌<◌, ◌≤◌}
use mathlib.Core.Path.{◌≡◌, refl, sym, ap, ◌∙◌}
use mathlib.Core.Bool.{Bool, true, false}
use native.Mathlib.Omega.{arith}
use borrow.Author.Tests.{ltb-true, ltb-false}
use lib.Dec.{ltb}
use Rattle.language.specs.declared.Refusal.{Refusal}
use Rattle.language.specs.Numbers.{number_of, place_of}
use Rattle.outcomes.proofs.Apart.{refusals-apart}
use Rattle.demands.specs.Table.{First}

not-less : (a b : ℕ) → (a < b → ⊥) → b ≤ a
not-less a b n = go (ltb a b) refl
  where
    go : (t : Bool) → ltb a b ≡ t → b ≤ a
    go true e = absurd (n (ltb-true a b e))
    go false e = ltb-false a b e

-- two that are first are one, where a number has one place
pub first_one : (Fault : Refusal → Type 0) (place : ℕ → ℕ) → ((d : Refusal) → Fault d → place_of d ≡ place (number_of d)) → (d e : Refusal) → First Fault d → First Fault e → d ≡ e
first_one Fault place at d e f g =
    let p = not-less (number_of d) (number_of e) (λ p. g.none_before d p f.here) in
    let q = not-less (number_of e) (number_of d) (λ p. f.none_before e p g.here) in
    let n : number_of d ≡ number_of e = omega arith in
    refusals-apart d e n (at d f.here ∙ ap place n ∙ sym (at e g.here))
