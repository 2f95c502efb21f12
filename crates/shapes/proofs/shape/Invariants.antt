-- `shapes::shape` meets its contract: token by token.
use Prim.Native.Nat.{◌-◌}
use lib.ListN.{length}
use Rattle.language.specs.Limits.{desk}
use Rattle.shapes.proofs.Loop.{Going}
use Rattle.shapes.proofs.shape.Given as goal

abbrev pub invariant-loop-p : goal.invariant-loop-p
invariant-loop-p l = Going desk l.text l.at l.stage l.d l.i l.n

abbrev pub decreases-loop-p : goal.decreases-loop-p
decreases-loop-p l = length l.text - l.i
