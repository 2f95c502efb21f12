-- `filling::fill_in` meets its contract. The invariant: with what is still to come, the room is as it is to be.
use Prim.Native.Nat.{◌-◌}
use lib.ListN.{length}
use Rattle.filling.proofs.Writes.{Writing}
use Rattle.filling.proofs.fill_in.Given as goal

abbrev pub invariant-loop-at : goal.invariant-loop-at
invariant-loop-at l = Writing l.terms l.hedges l.filling l.words l.initial.room l.start l.at l.to l.room

abbrev pub decreases-loop-at : goal.decreases-loop-at
decreases-loop-at l = length l.words - l.at
