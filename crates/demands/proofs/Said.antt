-- What the contracts say in numbers, of the answers that have these numbers.
use mathlib.Core.Path.{◌≡◌}
use Prim.Native.Nat.{ℕ}
use mathlib.Core.List.{List}
use lib.ListN.{length}
use Rattle.std.specs.Prelude.{Result}
use Rattle.language.specs.declared.Refusal.{Refusal}
use Rattle.language.specs.Limits.{desk}
use Rattle.rules.specs.Answer.{solving}
use Rattle.rules.specs.Calls.{trying}
use Rattle.outcomes.specs.declared.Solved.{Solved}
use Rattle.solver.specs.Leaves.{leaves}
use Rattle.solver.proofs.Told.{leaves-told}
use Rattle.trying.specs.Outcome.{Outcome}
use Rattle.trying.proofs.Told.{outcome-told}
use Rattle.example.specs.Exhibits.{exhibits}
use Rattle.example.proofs.Told.{exhibits-told}
use Rattle.demands.specs.Solves.{Solve}
use Rattle.demands.specs.Tries.{Try}
use Rattle.demands.specs.Examples.{Example}

pub solve-said : (c : Solve) → ◌≡◌ {A = Solved × List ℕ × List ℕ} (c.returned, c.work_left, c.answer_left) (leaves (solving desk (length c.work) (length c.answer) c.question) c.work c.answer)
solve-said c = leaves-told (c.returned, c.work_left, c.answer_left) (solving desk (length c.work) (length c.answer) c.question) c.work c.answer c.said

pub try-said : (t : Try) → Outcome (trying desk (length t.work) t.question t.filling) t.returned t.work t.work_left
try-said t = outcome-told (trying desk (length t.work) t.question t.filling) t.returned t.work t.work_left t.said

pub example-said : (c : Example) → ◌≡◌ {A = Result ℕ Refusal × List ℕ × List ℕ × List ℕ} (c.returned, c.work_left, c.answer_left, c.room_left) (exhibits c.line c.old_sheets c.question c.work c.answer c.room)
example-said c = exhibits-told (c.returned, c.work_left, c.answer_left, c.room_left) c.line c.old_sheets c.question c.work c.answer c.room c.said
