-- `same_behind`: the words passed, from the ends on, are the same.
use Rattle.first_waiting.specs.Parts.{AlikeBack}
use Rattle.first_waiting.proofs.same_behind.Given as goal

abbrev pub invariant-loop-i : goal.invariant-loop-i
invariant-loop-i l = AlikeBack l.k l.end l.work l.to l.i
