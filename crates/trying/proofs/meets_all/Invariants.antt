-- `trying::meets_all` meets its contract. The invariant: what is left of the conjunction says of the whole what is asked.
use Prim.Native.Nat.{◌-◌}
use lib.ListN.{length}
use Rattle.header.specs.Heading.{counts_in}
use Rattle.trying.proofs.Scans.{Testing}
use Rattle.trying.proofs.meets_all.Given as goal

abbrev pub invariant-loop-i : goal.invariant-loop-i
invariant-loop-i l = Testing (counts_in l.h) l.filling l.conj l.i l.initial.work l.work

abbrev pub decreases-loop-i : goal.decreases-loop-i
decreases-loop-i l = length l.conj - l.i
