-- A part's words are counted one by one.
use Rattle.values.proofs.Parts.{Counted}
use Rattle.values.proofs.part_len.Given as goal

abbrev pub invariant-loop-i : goal.invariant-loop-i
invariant-loop-i l = Counted l.k l.from l.to l.i l.n
