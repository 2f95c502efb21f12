-- The loop's invariant: the pairs from i on are swept.
use Prim.Native.Nat.{◌≤◌}
use Rattle.clash.specs.Sweeping.{SweptTo}
use Rattle.clash.proofs.sweeps.sweep.Given as goal

abbrev pub invariant-loop-i : goal.invariant-loop-i
invariant-loop-i l = (l.i ≤ l.met.count) × SweptTo l.i l.chart.words.now l.classes l.at l.met.left l.met.right l.met.count l.initial.marks l.marks l.changed
