-- `collecting::collect` meets its contract: line by line.
use Prim.Native.Nat.{◌-◌}
use lib.ListN.{length}
use Rattle.language.specs.Limits.{desk}
use Rattle.collecting.proofs.Taking.{GoingOn}
use Rattle.collecting.proofs.collect.Given as goal

abbrev pub invariant-loop-at : goal.invariant-loop-at
invariant-loop-at l = GoingOn desk l.text l.initial.names l.names l.at

abbrev pub decreases-loop-at : goal.decreases-loop-at
decreases-loop-at l = length l.text - l.at
