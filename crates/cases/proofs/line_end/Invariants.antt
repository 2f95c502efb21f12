-- `cases::line_end` meets its contract: no line end was passed.
use Rattle.cases.proofs.Laws.{Along}
use Rattle.cases.proofs.line_end.Given as goal

abbrev pub invariant-loop-i : goal.invariant-loop-i
invariant-loop-i l = Along l.text l.at l.i
