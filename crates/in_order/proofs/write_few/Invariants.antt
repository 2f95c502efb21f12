-- The loop's invariant: the elements that are left are still to come, in their order of what is left of the number.
use mathlib.Core.Path.{◌≡◌}
use lib.ListN.{length}
use Rattle.orders.specs.Orders.{in_order, elements_at}
use Rattle.slices.proofs.Still.{Still}
use Rattle.in_order.proofs.write_few.Given as goal

abbrev pub invariant-loop-rest : goal.invariant-loop-rest
invariant-loop-rest l = Still l.initial.out l.at (elements_at l.k (in_order l.n l.number l.initial.ps.at)) l.out l.e (elements_at l.k (in_order l.rest l.j l.ps.at)) × (length l.ps.at ≡ 8)
