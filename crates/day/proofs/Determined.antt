-- Any two outcomes that the contract of `solve_day` allows coincide: what comes back, and what the two slices and the room then hold.
use mathlib.Core.Path.{sym, ap, ◌∙◌}
use mathlib.Core.List.{List}
use Prim.Native.Nat.{ℕ}
use Rattle.language.proofs.Determined.{Determined}
use Rattle.outcomes.proofs.Apart.{checked-apart}
use Rattle.day.specs.contracts.solve_day as solve-day-contract
use Rattle.day.proofs.solve_day.Reads as solve-day-reads

solve_day-determined : Determined solve-day-contract.ended solve-day-reads.Pre solve-day-reads.Post
solve_day-determined κs a p o q e d =
    ap (λ z. (z, o.1)) (checked-apart o.0 q.0 (e.0 ∙ sym d.0))
    ∙ ap (λ (work : List ℕ). (q.0, (tt, (work, o.1.1.1)))) (e.1.1 ∙ sym d.1.1)
    ∙ ap (λ (answer : List ℕ). (q.0, (tt, (q.1.1.0, (answer, o.1.1.1.1))))) (e.1.2 ∙ sym d.1.2)
    ∙ ap (λ (room : List ℕ). (q.0, (tt, (q.1.1.0, (q.1.1.1.0, (room, tt)))))) (e.1.0 ∙ sym d.1.0)
