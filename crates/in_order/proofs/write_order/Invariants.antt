-- The loop's invariant: all but the elements passed are still to come, from p on, in their order of that number.
use Prim.Native.Nat.{◌+◌, ◌-◌, ◌≤◌, max}
use Rattle.words.specs.Spans.{places}
use Rattle.orders.specs.Orders.{in_order, elements_at, ordered}
use Rattle.slices.proofs.Still.{Still}
use Rattle.in_order.proofs.write_order.Given as goal

abbrev pub invariant-loop : goal.invariant-loop
invariant-loop l = Still l.initial.out l.at (ordered l.k l.from l.n l.number) l.out l.e (elements_at l.k (in_order (l.n + 8 - l.counter) l.number (places (l.n + 8 - l.counter) l.k l.p))) × (l.counter ≤ max 8 l.n)
