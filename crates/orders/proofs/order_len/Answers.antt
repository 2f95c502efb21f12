use Prim.Native.Nat.{ℕ, ◌+◌, ◌-◌}
use mathlib.Core.Path.{◌≡◌, subst}
use native.Mathlib.Omega.{arith}
use Rattle.orders.proofs.Orders.{Counting, counting-all, counting-on, counting-done}
use Rattle.orders.proofs.order_len.Goals as goal

pub loop-init : goal.loop-init
loop-init c =
    subst (λ (m : ℕ). Counting c.args.k.now c.args.from c.args.n c.args.from m) (let z : c.args.n ≡ c.args.n - 0 = omega arith in z) (counting-all c.args.k.now c.args.from c.args.n)

pub loop-preserved : goal.loop-preserved
loop-preserved c =
    subst (λ (m : ℕ). Counting c.args.k.now c.args.from c.args.n c.element_end-end.result m)
    (let z : c.args.n - c.loop.counter - 1 ≡ c.args.n - (c.loop.counter + 1) = omega arith in z)
    (counting-on c.loop.invariant (λ z. omega arith) c.element_end-end.ensures)

pub returns : goal.returns
returns c = counting-done c.loop.invariant (omega arith) c.part_len.ensures
