-- `trying::any_too_long` meets its contract. The invariant: what is left of the alternatives says of the question what is asked.
use Rattle.trying.proofs.Questions.{Measuring}
use Rattle.trying.proofs.any_too_long.Given as goal

abbrev pub invariant-loop-i : goal.invariant-loop-i
invariant-loop-i l = Measuring l.h l.filling l.question l.i l.n
