use native.Mathlib.Omega.{arith}
use Rattle.any_order.proofs.Noting.{mark-starts, mark-more, mark-ends}
use Rattle.any_order.proofs.mark.Goals as goal

pub overflow_step-i : goal.overflow_step-i
overflow_step-i c = omega (arith, c.requires.bounded)

pub loop-i-init : goal.loop-i-init
loop-i-init c = mark-starts c.requires

pub offset_bounds-w-i : goal.offset_bounds-w-i
offset_bounds-w-i c = omega (arith, c.requires.fits)

pub bounds-w-i : goal.bounds-w-i
bounds-w-i c = omega (arith, c.requires.fits)

pub overflow_add-kind : goal.overflow_add-kind
overflow_add-kind c = omega (arith, c.requires.bounded)

pub store-requires : goal.store-requires
store-requires c = (omega (arith, c.wide.ensures, c.requires.inside c.loop-i.i c.loop-i.auto.i c.loop-i-test.true, c.loop-i.invariant.len), omega (arith, c.requires.bounded))

pub loop-i-preserved : goal.loop-i-preserved
loop-i-preserved c = mark-more c.loop-i.invariant c.wide.ensures (omega (arith, c.wide.ensures, c.requires.inside c.loop-i.i c.loop-i.auto.i c.loop-i-test.true)) c.store.ensures

pub returns : goal.returns
returns c = mark-ends c.loop-i.invariant c.loop-i-test.false
