-- Any two outcomes that the contract of `replay` allows coincide: what comes back and what the two lent slices then hold.
use mathlib.Core.Path.{sym, ap, ◌∙◌, ◌≡◌}
use mathlib.Core.List.{List}
use Prim.Native.Nat.{ℕ}
use Rattle.language.proofs.Determined.{Determined}
use Rattle.outcomes.specs.Numbers.{SolveNumbers, solved_numbers}
use Rattle.outcomes.proofs.Apart.{solved-apart}
use Rattle.replayer.specs.contracts.replay as replay-contract
use Rattle.replayer.proofs.replay.Reads as replay-reads

abbrev Left : Type 0
Left = SolveNumbers × List ℕ × List ℕ

replay-determined : Determined replay-contract.ended replay-reads.Pre replay-reads.Post
replay-determined κs a p o q e d =
    let f : ◌≡◌ {A = Left} (solved_numbers o.0, o.1.1.1.0, o.1.1.1.1.0) (solved_numbers q.0, q.1.1.1.0, q.1.1.1.1.0) = e ∙ sym d in
    ap (λ z. (z, o.1)) (solved-apart o.0 q.0 (ap (λ (t : Left). t.0) f)) ∙ ap (λ (t : Left). (q.0, (tt, (tt, (t.1, (t.2, tt)))))) f
