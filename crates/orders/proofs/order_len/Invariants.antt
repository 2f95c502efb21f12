-- The loop's invariant: all but the elements passed are still to come, from `end` on.
use Prim.Native.Nat.{◌-◌}
use Rattle.orders.proofs.Orders.{Counting}
use Rattle.orders.proofs.order_len.Given as goal

abbrev pub invariant-loop : goal.invariant-loop
invariant-loop l = Counting l.k l.from l.n l.end (l.n - l.counter)
