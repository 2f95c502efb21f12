-- `text_survey::survey` meets its contract: line by line.
use Prim.Native.Nat.{◌-◌}
use lib.ListN.{length}
use Rattle.text_survey.proofs.Scan.{Lining}
use Rattle.text_survey.proofs.survey.Given as goal

abbrev pub invariant-loop-l : goal.invariant-loop-l
invariant-loop-l l = Lining l.text l.at l.many

abbrev pub decreases-loop-l : goal.decreases-loop-l
decreases-loop-l l = length l.text - l.at
