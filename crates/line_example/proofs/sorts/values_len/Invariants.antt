-- The values of one kind are measured one by one.
use Rattle.line_example.proofs.Rows.{Summed}
use Rattle.line_example.proofs.sorts.values_len.Given as goal

abbrev pub invariant-loop-j : goal.invariant-loop-j
invariant-loop-j l = Summed l.k l.of l.count l.j l.n
