-- `overlap::all_rows` meets its contract.
use Rattle.overlap.proofs.Tabling.{Tabling}
use Rattle.overlap.proofs.all_rows.Given as goal

abbrev pub invariant-loop-k : goal.invariant-loop-k
invariant-loop-k l = Tabling l.size l.word l.sheet l.n l.initial.room l.room l.at l.i l.k
