use native.Mathlib.Omega.{arith}
use Rattle.orders.proofs.Rows.{moving-none, moving-one, moved}
use Rattle.in_order.proofs.without.Goals as goal

pub bounds-at-i : goal.bounds-at-i
bounds-at-i c = let s = c.loop-i.invariant.size in let t = c.loop-i-test.true in omega arith

pub bounds-at-i-in-loop-i : goal.bounds-at-i-in-loop-i
bounds-at-i-in-loop-i c = let s = c.loop-i.invariant.size in let t = c.loop-i-test.true in omega arith

pub returns : goal.returns
returns c = (c.loop-i.invariant.size, moved c.loop-i.invariant c.loop-i-test.false)

pub loop-i-init : goal.loop-i-init
loop-i-init c = moving-none _ _ c.requires

pub loop-i-preserved : goal.loop-i-preserved
loop-i-preserved c = moving-one c.loop-i.invariant c.loop-i-test.true
