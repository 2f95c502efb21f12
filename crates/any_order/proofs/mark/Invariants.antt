-- `any_order::mark` meets its contract. The invariant: marked up to i.
use Rattle.any_order.specs.Searching.{Marked}
use Rattle.any_order.proofs.mark.Given as goal

abbrev pub invariant-loop-i : goal.invariant-loop-i
invariant-loop-i l = Marked l.w l.kind l.i l.initial.l l.l
