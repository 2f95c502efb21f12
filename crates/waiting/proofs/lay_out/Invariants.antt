-- The last conjunctions wait, from the i-th on, and the words before them still fit.
use Prim.Native.Nat.{◌+◌, ◌-◌, ◌*◌, ◌≤◌}
use lib.ListN.{length, drop, get_or}
use Rattle.language.specs.Limits.{desk}
use Rattle.language.specs.Question.{parts}
use Rattle.frames.specs.Frames.{frame}
use Rattle.waiting.specs.Waiting.{in_order, Laid}
use Rattle.waiting.proofs.lay_out.Given as goal

abbrev pub invariant-loop-i : goal.invariant-loop-i
invariant-loop-i l = (l.i ≤ get_or l.question 4 0) × (get_or l.question 4 0 + 6 ≤ length l.question) × (desk.room ≤ l.at + (length l.question - get_or l.question (l.i + 5) 0) + frame * (get_or l.question 4 0 - l.i)) × Laid l.initial.work l.at (in_order l.i (drop l.i (parts 5 (get_or l.question 4 0) l.question))) l.work
