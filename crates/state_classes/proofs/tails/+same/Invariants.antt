-- Two tails compared, by recursion on what is before their second parts; the words left fall.
use Prim.Native.Nat.{◌-◌}
use lib.ListN.{length}
use Rattle.state_classes.proofs.tails.+same.Given as goal

abbrev pub decreases-same : goal.decreases-same
decreases-same l = length l.chart.now.words.now - l.s.at
