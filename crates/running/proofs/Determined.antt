-- Any two outcomes that the contract of `run_course` allows coincide: what comes back and what the three lent slices then hold.
use mathlib.Core.Path.{sym, ap, ◌∙◌, ◌≡◌}
use mathlib.Core.List.{List}
use Prim.Native.Nat.{ℕ}
use Rattle.language.proofs.Determined.{Determined}
use Rattle.outcomes.specs.Numbers.{SolveNumbers, solved_numbers}
use Rattle.outcomes.proofs.Apart.{solved-apart}
use Rattle.running.specs.contracts.run_course as run_course-contract
use Rattle.running.proofs.run_course.Reads as run_course-reads

abbrev Left : Type 0
Left = SolveNumbers × List ℕ × List ℕ

run_course-determined : Determined run_course-contract.ended run_course-reads.Pre run_course-reads.Post
run_course-determined κs a p o q e d =
    let f : ◌≡◌ {A = Left} (solved_numbers o.0, o.1.1.0, o.1.1.1.0) (solved_numbers q.0, q.1.1.0, q.1.1.1.0) = e.0 ∙ sym d.0 in
    ap (λ z. (z, o.1)) (solved-apart o.0 q.0 (ap (λ (t : Left). t.0) f))
    ∙ ap (λ (t : Left). (q.0, (tt, (t.1, (t.2, (tt, (o.1.1.1.1.1.0, (tt, tt)))))))) f
    ∙ ap (λ (out : List ℕ). (q.0, (tt, (q.1.1.0, (q.1.1.1.0, (tt, (out, (tt, tt)))))))) (e.1 ∙ sym d.1)
