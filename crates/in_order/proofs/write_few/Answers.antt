use Prim.Native.Nat.{◌+◌, ◌/◌, ◌%◌, ◌-◌}
use mathlib.Core.Path.{◌≡◌, ap, sym}
use native.Mathlib.Omega.{arith}
use native.Mathlib.Nat.{mod-lt}
use Rattle.orders.specs.Orders.{drop_at, elements_at}
use Rattle.slices.proofs.Still.{still-all, still-none, still-fits, still-run}
use Rattle.orders.proofs.Orders.{next-found, agree-order, counted-orders, orders-some, none-in-order, still-as}
use Rattle.in_order.proofs.write_few.Goals as goal

pub loop-rest-init : goal.loop-rest-init
loop-rest-init c = (still-all _ _ _ c.requires.2, c.requires.0)

pub nonzero_div-d : goal.nonzero_div-d
nonzero_div-d c = let b = counted-orders (c.loop-rest.rest - 1) (let l = c.requires.1 in omega arith) c.count_orders-block.ensures in let f = orders-some (c.loop-rest.rest - 1) in omega arith

pub nonzero_rem-j : goal.nonzero_rem-j
nonzero_rem-j c = let b = counted-orders (c.loop-rest.rest - 1) (let l = c.requires.1 in omega arith) c.count_orders-block.ensures in let f = orders-some (c.loop-rest.rest - 1) in omega arith

pub bounds-row-d : goal.bounds-row-d
bounds-row-d c = let l = c.requires.1 in
    let s = c.loop-rest.invariant.1 in
    let d = mod-lt (c.loop-rest.j / c.count_orders-block.result) {m = c.loop-rest.rest - 1 + 1} (omega arith) in omega arith

pub copy-e-requires : goal.copy-e-requires
copy-e-requires c = let l = c.requires.1 in
    still-fits c.loop-rest.invariant.0
    (next-found c.args.k.now c.loop-rest.rest c.loop-rest.j c.loop-rest.ps.at (λ z. omega arith) (let z : c.loop-rest.rest - 1 + 1 ≡ c.loop-rest.rest = omega arith in z)
    (counted-orders (c.loop-rest.rest - 1) (omega arith) c.count_orders-block.ensures) c.element_end-end.ensures)

pub loop-rest-preserved : goal.loop-rest-preserved
loop-rest-preserved c = let l = c.requires.1 in
    let m = c.loop-rest.rest in (
      still-as (ap (elements_at c.args.k.now) (sym (agree-order (m - 1) (c.loop-rest.j % c.count_orders-block.result) c.without-ps.result.at (drop_at (c.loop-rest.j / c.count_orders-block.result % (m - 1 + 1)) c.loop-rest.ps.at) (λ i h. c.without-ps.ensures.1 i (omega arith)))))
          (still-run c.loop-rest.invariant.0 (next-found c.args.k.now m c.loop-rest.j c.loop-rest.ps.at (λ z. omega arith) (let z : m - 1 + 1 ≡ m = omega arith in z)
          (counted-orders (m - 1) (omega arith) c.count_orders-block.ensures) c.element_end-end.ensures) c.copy-e.ensures),
      c.without-ps.ensures.0,
    )

pub returns : goal.returns
returns c = still-none c.loop-rest.invariant.0 (none-in-order c.args.k.now c.loop-rest.j c.loop-rest.ps.at (let z : c.loop-rest.rest ≡ 0 = omega arith in z))
