-- The values of one kind are written one by one: what is still to come, written from here on, completes the row.
use mathlib.Core.Path.{◌≡◌}
use lib.ListN.{length}
use Rattle.line_example.proofs.Rows.{Written}
use Rattle.line_example.proofs.sorts.write_values.Given as goal

abbrev pub invariant-loop-j : goal.invariant-loop-j
invariant-loop-j l = (length l.out ≡ length l.initial.out) × Written l.k l.of l.count l.any l.initial.out l.at l.j l.out l.e
