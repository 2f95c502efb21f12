-- Any two outcomes that the contract of `solve` allows coincide: what comes back and what the two lent slices then hold.
use mathlib.Core.Path.{sym, ap, ◌∙◌, ◌≡◌}
use mathlib.Core.List.{List}
use Prim.Native.Nat.{ℕ}
use Rattle.language.proofs.Determined.{Determined}
use Rattle.outcomes.specs.Numbers.{SolveNumbers, solved_numbers}
use Rattle.outcomes.proofs.Apart.{solved-apart}
use Rattle.solver.specs.contracts.solve as solve-contract
use Rattle.solver.proofs.solve.Reads as solve-reads

abbrev Told : Type 0
Told = SolveNumbers × List ℕ × List ℕ

solve-determined : Determined solve-contract.ended solve-reads.Pre solve-reads.Post
solve-determined κs a p o q e d =
    let f : ◌≡◌ {A = Told} (solved_numbers o.0, o.1.1.0, o.1.1.1.0) (solved_numbers q.0, q.1.1.0, q.1.1.1.0) = e ∙ sym d in
    ap (λ z. (z, o.1)) (solved-apart o.0 q.0 (ap (λ (t : Told). t.0) f)) ∙ ap (λ (t : Told). (q.0, (tt, (t.1, (t.2, tt))))) f
