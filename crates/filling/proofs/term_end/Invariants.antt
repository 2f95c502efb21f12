-- `filling::term_end` meets its contract. The invariant: what is still to come makes up the term's words.
use Rattle.filling.proofs.Terms.{Closing}
use Rattle.filling.proofs.term_end.Given as goal

abbrev pub invariant-loop-i : goal.invariant-loop-i
invariant-loop-i l = Closing l.words l.at l.depth l.i
