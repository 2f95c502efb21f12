-- Any two outcomes that a contract of this crate allows coincide.
use Prim.Native.Nat.{ℕ}
use mathlib.Core.Path.{sym, ap, ◌∙◌, ◌≡◌}
use mathlib.Core.List.{List}
use Rattle.language.proofs.Determined.{Determined}
use Rattle.outcomes.specs.Numbers.{shown_numbers}
use Rattle.outcomes.proofs.Apart.{shown-apart}
use Rattle.trail_example.specs.contracts.example_trail as example-trail-contract
use Rattle.trail_example.proofs.example_trail.Reads as example-trail-reads

abbrev Told : Type 0
Told = (ℕ × ℕ × ℕ) × List ℕ × List ℕ × List ℕ

-- what comes back, and what the two slices and the room then hold
example_trail-determined : Determined example-trail-contract.ended example-trail-reads.Pre example-trail-reads.Post
example_trail-determined κs a p o q e d =
    let f : ◌≡◌ {A = Told} (shown_numbers o.0, o.1.1.1.1.1.0, o.1.1.1.1.1.1.0, o.1.1.1.1.1.1.1.0) (shown_numbers q.0, q.1.1.1.1.1.0, q.1.1.1.1.1.1.0, q.1.1.1.1.1.1.1.0) = e ∙ sym d in
    ap (λ z. (z, o.1)) (shown-apart o.0 q.0 (ap (λ (t : Told). t.0) f)) ∙ ap (λ (t : Told). (q.0, (tt, (tt, (tt, (tt, (t.1, (t.2, (t.3, tt))))))))) f
