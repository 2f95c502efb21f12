-- `trying::too_long` meets its contract. The invariant: what is left of the conjunction says of the whole what is asked.
use Prim.Native.Nat.{◌-◌}
use lib.ListN.{length}
use Rattle.header.specs.Heading.{counts_in}
use Rattle.trying.proofs.Scans.{Scanning}
use Rattle.trying.proofs.too_long.Given as goal

abbrev pub invariant-loop-i : goal.invariant-loop-i
invariant-loop-i l = Scanning (counts_in l.h) l.filling l.conj l.i

abbrev pub decreases-loop-i : goal.decreases-loop-i
decreases-loop-i l = length l.conj - l.i
