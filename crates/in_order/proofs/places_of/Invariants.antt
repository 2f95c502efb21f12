-- The loop's invariant: the places before i are there, and p is the next.
use Rattle.orders.proofs.Rows.{Filling}
use Rattle.in_order.proofs.places_of.Given as goal

abbrev pub invariant-loop-i : goal.invariant-loop-i
invariant-loop-i l = Filling l.k l.from l.n l.at l.i l.p
