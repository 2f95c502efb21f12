-- `trying::meets_one` meets its contract. The invariant: what is left of the alternatives says of the question what is asked.
use Rattle.trying.proofs.Questions.{Trying-on}
use Rattle.trying.proofs.meets_one.Given as goal

abbrev pub invariant-loop-i : goal.invariant-loop-i
invariant-loop-i l = Trying-on l.h l.filling l.question l.i l.n l.initial.work l.work
