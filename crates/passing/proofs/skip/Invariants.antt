-- `passing::skip` meets its contract. The invariant: as many hedges as `depth` says stand from i to the end of the one to pass.
use Prim.Native.Nat.{◌-◌}
use lib.ListN.{length}
use Rattle.passing.proofs.Rows.{Passing}
use Rattle.passing.proofs.skip.Given as goal

abbrev pub invariant-loop-depth : goal.invariant-loop-depth
invariant-loop-depth l = Passing l.h l.j l.i l.depth

abbrev pub decreases-loop-depth : goal.decreases-loop-depth
decreases-loop-depth l = length l.h - l.i
