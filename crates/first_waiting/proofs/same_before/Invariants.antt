-- `same_before`: the words passed are the same.
use Rattle.first_waiting.specs.Parts.{Alike}
use Rattle.first_waiting.proofs.same_before.Given as goal

abbrev pub invariant-loop-i : goal.invariant-loop-i
invariant-loop-i l = Alike l.k l.work l.from l.i
