-- `text_survey::line` meets its contract: token by token.
use Prim.Native.Nat.{◌-◌}
use lib.ListN.{length}
use Rattle.text_survey.proofs.Scan.{Going}
use Rattle.text_survey.proofs.line.Given as goal

abbrev pub invariant-loop-p : goal.invariant-loop-p
invariant-loop-p l = Going l.text l.at l.i l.some

abbrev pub decreases-loop-p : goal.decreases-loop-p
decreases-loop-p l = length l.text - l.i
