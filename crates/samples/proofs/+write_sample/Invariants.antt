-- The sample of the expression at a place is written by recursion over its parts; the words left fall.
use Prim.Native.Nat.{◌-◌}
use lib.ListN.{length}
use Rattle.samples.proofs.+write_sample.Given as goal

abbrev pub decreases-write_sample : goal.decreases-write_sample
decreases-write_sample l = length l.k.now - l.at
