-- `go_on`: the run is under way, and its end is that of the beginning.
use mathlib.Core.Path.{◌≡◌}
use mathlib.Core.List.{List}
use Prim.Native.Nat.{ℕ, ◌≤◌}
use lib.ListN.{length, take}
use Rattle.language.specs.Limits.{desk}
use Rattle.counts.specs.Tables.{afresh}
use Rattle.rules.specs.Step.{Spot}
use Rattle.rules.specs.Run.{Numbered}
use Rattle.running.specs.Turning.{guide, left_of, Under, measure}
use Rattle.running.proofs.Gone.{Gone}
use Rattle.running.proofs.turns.go_on.Given as goal

abbrev pub invariant-loop-s : goal.invariant-loop-s
invariant-loop-s l = (length l.work ≡ length l.initial.work) × (length l.answer ≡ length l.initial.answer) × (length l.out ≡ length l.initial.out)
    × ((old : List ℕ) (whole : List Spot) (old_work old_answer : List ℕ) (ls w : List Numbered) → Under (guide l.course l.told old whole) old_work old_answer ls w l.initial.s l.initial.work l.initial.answer l.initial.out
    → Gone (guide l.course l.told old whole) old_work old_answer (left_of (guide l.course l.told old whole) l.initial.s ls w) l.s l.work l.answer l.out)
    × (length l.k ≡ desk.question) × (l.n ≤ desk.question) × (l.table ≡ afresh (take l.n l.k))

abbrev pub decreases-loop-s : goal.decreases-loop-s
decreases-loop-s l = measure l.course l.told l.s
