-- `walking::brackets` meets its contract: token by token.
use Prim.Native.Nat.{◌-◌}
use lib.ListN.{length}
use Rattle.language.specs.Limits.{desk}
use Rattle.walking.proofs.Elements.{Going}
use Rattle.walking.proofs.brackets.Given as goal

abbrev pub invariant-loop-p : goal.invariant-loop-p
invariant-loop-p l = Going desk l.text l.names l.initial.room l.at l.n l.stage l.d l.i l.k l.room

abbrev pub decreases-loop-p : goal.decreases-loop-p
decreases-loop-p l = length l.text - l.i
