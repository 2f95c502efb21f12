-- The loop's invariant: the places from i on are charted.
use mathlib.Core.Path.{◌≡◌}
use Prim.Native.Nat.{◌≤◌}
use lib.ListN.{length}
use Rattle.charts.specs.Charted.{ChartedFrom}
use Rattle.charts.proofs.Charting.{Rest}
use Rattle.charts.proofs.chart.Given as goal

abbrev pub invariant-loop-i : goal.invariant-loop-i
invariant-loop-i l = (l.i ≤ length l.k) × ChartedFrom l.i l.k l.ends l.nulls × (length l.ends ≡ length l.initial.ends) × (length l.nulls ≡ length l.initial.nulls) × Rest l.k l.initial.ends l.initial.nulls l.ends l.nulls
