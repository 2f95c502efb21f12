-- The loop's invariant: what is left of the whole is what is left of the expression at x.
use Prim.Native.Nat.{◌-◌}
use lib.ListN.{length}
use Rattle.state_classes.proofs.Peeling.{Goes}
use Rattle.state_classes.proofs.tails.peel.Given as goal

abbrev pub invariant-loop-x : goal.invariant-loop-x
invariant-loop-x l = Goes l.k l.at l.p l.x

abbrev pub decreases-loop-x : goal.decreases-loop-x
decreases-loop-x l = length l.k - l.x
