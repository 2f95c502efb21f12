-- The loop's invariant: the places from i on are charted.
use mathlib.Core.Path.{◌≡◌}
use Prim.Native.Nat.{◌≤◌}
use lib.ListN.{length}
use Rattle.linear_form.specs.Charted.{ChartedFrom}
use Rattle.linear_form.proofs.chart.chart.Given as goal

abbrev pub invariant-loop-i : goal.invariant-loop-i
invariant-loop-i l = (l.i ≤ length l.k) × ChartedFrom l.i l.k l.ends × (length l.ends ≡ length l.initial.ends)
