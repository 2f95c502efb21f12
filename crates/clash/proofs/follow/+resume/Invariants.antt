-- The symbols that can be read next, by recursion along the way to the one that was read; the words left fall.
use Prim.Native.Nat.{◌-◌}
use lib.ListN.{length}
use Rattle.clash.proofs.follow.+resume.Given as goal

abbrev pub decreases-resume : goal.decreases-resume
decreases-resume l = length l.chart.now.words.now - l.at
