-- `collecting::take_line` meets its contract: token by token.
use Prim.Native.Nat.{◌-◌}
use lib.ListN.{length}
use Rattle.language.specs.Limits.{desk}
use Rattle.collecting.proofs.Taking.{Going}
use Rattle.collecting.proofs.take_line.Given as goal

abbrev pub invariant-loop-mark : goal.invariant-loop-mark
invariant-loop-mark l = Going desk l.text l.initial.names l.at l.names l.i l.after

abbrev pub decreases-loop-mark : goal.decreases-loop-mark
decreases-loop-mark l = length l.text - l.i
