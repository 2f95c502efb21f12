use mathlib.Core.Path.{refl}
use native.Mathlib.Omega.{arith}
use Rattle.orders.proofs.Rows.{filling-none, filling-one, filled}
use Rattle.in_order.proofs.places_of.Goals as goal

pub bounds-at-i : goal.bounds-at-i
bounds-at-i c = let s = c.loop-i.invariant.size in let t = c.loop-i-test.true in let p = c.requires in omega arith

pub loop-i-preserved : goal.loop-i-preserved
loop-i-preserved c = filling-one c.loop-i.invariant c.loop-i-test.true c.requires c.element_end-p.ensures

pub returns : goal.returns
returns c = (c.loop-i.invariant.size, filled c.loop-i.invariant c.loop-i-test.false)

pub loop-i-init : goal.loop-i-init
loop-i-init c = filling-none _ _ _ _ refl
