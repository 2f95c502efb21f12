-- The symbols that can be read first, by recursion over an expression's parts; the words left fall.
use Prim.Native.Nat.{◌-◌}
use lib.ListN.{length}
use Rattle.clash.proofs.follow.+begin.Given as goal

abbrev pub decreases-begin : goal.decreases-begin
decreases-begin l = length l.chart.now.words.now - l.at
