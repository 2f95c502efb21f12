-- The loop keeps what is to be written.
use Rattle.write_text.proofs.Siding.{Going}
use Rattle.write_text.proofs.sides.put_elements.Given as goal

abbrev pub invariant-loop-i : goal.invariant-loop-i
invariant-loop-i l = Going l.stop l.from l.end l.w l.initial.out l.to l.i l.s l.out l.n
