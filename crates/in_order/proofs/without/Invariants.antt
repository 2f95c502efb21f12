-- The loop's invariant: the places before i have moved up.
use Rattle.orders.proofs.Rows.{Moving}
use Rattle.in_order.proofs.without.Given as goal

abbrev pub invariant-loop-i : goal.invariant-loop-i
invariant-loop-i l = Moving l.d l.initial.at l.at l.i
