-- The loop's invariant: what is found at x is found in the whole, in the expression at l.
use Prim.Native.Nat.{◌-◌}
use Rattle.charts.proofs.Levels.{Ways}
use Rattle.charts.proofs.level_of.Given as goal

abbrev pub invariant-loop-x : goal.invariant-loop-x
invariant-loop-x l = Ways l.k l.at l.j l.x l.l

abbrev pub decreases-loop-x : goal.decreases-loop-x
decreases-loop-x l = l.j - l.x
