use native.Mathlib.Omega.{arith}
use Rattle.filling.proofs.Filled.{counted-starts, counted-fits, counted-on, counted-ends}
use Rattle.filling.proofs.filled_len.Goals as goal

pub loop-at-preserved : goal.loop-at-preserved
loop-at-preserved c = (counted-on _ _ _ c.loop-at.invariant (omega arith) c.requires.filling_len_bound c.requires.words_len_bound c.lookup-value.ensures c.step-at.ensures).0

pub loop-at-init : goal.loop-at-init
loop-at-init c = counted-starts _ _ _ _

pub overflow_add-total : goal.overflow_add-total
overflow_add-total c = let f = counted-fits _ _ _ c.loop-at.invariant (omega arith) c.requires.filling_len_bound c.requires.words_len_bound c.lookup-value.ensures in
    omega arith

pub overflow_add-at : goal.overflow_add-at
overflow_add-at c = omega (arith, (counted-on _ _ _ c.loop-at.invariant (omega arith) c.requires.filling_len_bound c.requires.words_len_bound c.lookup-value.ensures c.step-at.ensures).0.inside)

pub loop-at-smaller : goal.loop-at-smaller
loop-at-smaller c = let f = counted-on _ _ _ c.loop-at.invariant (omega arith) c.requires.filling_len_bound c.requires.words_len_bound c.lookup-value.ensures c.step-at.ensures in
    omega arith

pub returns : goal.returns
returns c = counted-ends _ _ _ c.loop-at.invariant (omega arith)
