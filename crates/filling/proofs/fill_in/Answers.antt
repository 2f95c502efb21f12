use native.Mathlib.Omega.{arith}
use Rattle.filling.proofs.Writes.{writing-starts, writing-fits, writing-on, writing-ends}
use Rattle.filling.proofs.fill_in.Goals as goal

pub copy-to-requires : goal.copy-to-requires
copy-to-requires c = writing-fits _ _ _ c.loop-at.invariant (omega arith) c.lookup-value.ensures c.requires.words_in_bounds

pub loop-at-preserved : goal.loop-at-preserved
loop-at-preserved c = (writing-on _ _ _ c.loop-at.invariant (omega arith) c.lookup-value.ensures c.copy-to.ensures c.step-at.ensures).0

pub loop-at-init : goal.loop-at-init
loop-at-init c = writing-starts _ _ _ _ _ _

pub overflow_add-at : goal.overflow_add-at
overflow_add-at c = omega (arith, (writing-on _ _ _ c.loop-at.invariant (omega arith) c.lookup-value.ensures c.copy-to.ensures c.step-at.ensures).0.inside)

pub loop-at-smaller : goal.loop-at-smaller
loop-at-smaller c = let f = writing-on _ _ _ c.loop-at.invariant (omega arith) c.lookup-value.ensures c.copy-to.ensures c.step-at.ensures in
    omega arith

pub returns : goal.returns
returns c = writing-ends _ _ _ c.loop-at.invariant (omega arith)
