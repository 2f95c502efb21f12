-- `filling::filled_len` meets its contract. The invariant: what was counted and what is still to come make up the whole.
use Prim.Native.Nat.{◌-◌}
use lib.ListN.{length}
use Rattle.filling.proofs.Filled.{Counted}
use Rattle.filling.proofs.filled_len.Given as goal

abbrev pub invariant-loop-at : goal.invariant-loop-at
invariant-loop-at l = Counted l.terms l.hedges l.filling l.words l.at l.total

abbrev pub decreases-loop-at : goal.decreases-loop-at
decreases-loop-at l = length l.words - l.at
