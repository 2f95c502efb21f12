-- Writing the results of an expression, by recursion over its parts; the words left fall.
use Prim.Native.Nat.{◌-◌}
use lib.ListN.{length}
use Rattle.linear_form.proofs.+walk.Given as goal

abbrev pub decreases-walk : goal.decreases-walk
decreases-walk l = length l.k.now - l.at
