-- Where the values of one kind begin is written one by one, each offset the one before and its value's length.
use mathlib.Core.Path.{◌≡◌}
use lib.ListN.{length}
use Rattle.line_example.proofs.Rows.{Started}
use Rattle.line_example.proofs.sorts.write_starts.Given as goal

abbrev pub invariant-loop-j : goal.invariant-loop-j
invariant-loop-j l = (length l.out ≡ length l.initial.out) × Started l.k l.of l.count l.initial.out l.at l.offset l.j l.out l.e l.next
