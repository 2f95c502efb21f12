-- A call solve(question, work, answer) that came back: nothing is known of it but what its contract says.
use Rattle.std.specs.Prelude.{ℕ, ◌≡◌, List, length}
use Rattle.language.specs.Limits.{desk}
use Rattle.rules.specs.Answer.{solving}
use Rattle.outcomes.specs.declared.Solved.{Solved}
use Rattle.outcomes.specs.Numbers.{SolveNumbers, solved_numbers}
use Rattle.solver.specs.Leaves.{told_leaves}
use Rattle.solver.specs.contracts.solve as solve-contract
use Rattle.solver.proofs.solve.Reads as solve-reads
use Rattle.demands.specs.Calls.{Call}

-- what was lent, what came back, and what the two slices held then
pub record Solve : Type 0 where
  pub question : List ℕ
  pub work : List ℕ
  pub answer : List ℕ
  pub returned : Solved
  pub work_left : List ℕ
  pub answer_left : List ℕ
  pub said : ◌≡◌ {A = SolveNumbers × List ℕ × List ℕ} (solved_numbers returned, work_left, answer_left) (told_leaves (solving desk (length work) (length answer) question) work answer)

-- Any outcome that the contract itself allows is one: were the contract another, this would be refused.
abbrev pub allowed : Call solve-contract.ended solve-reads.Pre solve-reads.Post → Solve
allowed c = record {
  question = c.arguments.0.now;
  work = c.arguments.1.0.now;
  answer = c.arguments.1.1.0.now;
  returned = c.outcome.0;
  work_left = c.outcome.1.1.0;
  answer_left = c.outcome.1.1.1.0;
  said = c.said;
}
