-- Counting the results of an expression, by recursion over its parts; the words left fall.
use Prim.Native.Nat.{◌-◌}
use lib.ListN.{length}
use Rattle.linear_form.proofs.+tally.Given as goal

abbrev pub decreases-tally : goal.decreases-tally
decreases-tally l = length l.k.now - l.at
