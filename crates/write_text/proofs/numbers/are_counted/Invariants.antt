-- The loop keeps what is to be found.
use Rattle.write_text.proofs.Counting.{Counting}
use Rattle.write_text.proofs.numbers.are_counted.Given as goal

abbrev pub invariant-loop-i : goal.invariant-loop-i
invariant-loop-i l = Counting l.w l.from l.base l.i l.n
