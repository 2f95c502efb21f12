-- The place after the expression at a place and its emptiness, by recursion over its parts; the words left fall.
use Prim.Native.Nat.{◌-◌}
use lib.ListN.{length}
use Rattle.expressions.proofs.+pass.Given as goal

abbrev pub decreases-pass : goal.decreases-pass
decreases-pass l = length l.k.now - l.at
