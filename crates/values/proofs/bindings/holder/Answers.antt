use mathlib.Core.Path.{refl}
use native.Mathlib.Omega.{arith}
use Rattle.values.proofs.Walks.{walk_start}
use Rattle.values.proofs.Places.{worded, held-here, binding-on, held-nowhere}
use Rattle.values.proofs.bindings.holder.Goals as goal

pub loop-at-init : goal.loop-at-init
loop-at-init c = λ d v s w. walk_start refl

pub returns-then-stands : goal.returns-then-stands
returns-then-stands c = λ d v s w. held-here s (worded w c.word_of.ensures) (c.loop-at.invariant d v s w) c.loop-at-test.true c.next_literal-next.ensures c.stands.ensures c.if-stands.true

pub loop-at-smaller : goal.loop-at-smaller
loop-at-smaller c = omega arith

pub loop-at-preserved : goal.loop-at-preserved
loop-at-preserved c = λ d v s w. binding-on s (worded w c.word_of.ensures) (c.loop-at.invariant d v s w) c.loop-at-test.true c.next_literal-next.ensures c.stands.ensures c.if-stands.false

pub returns : goal.returns
returns c = λ d v s w. held-nowhere s (worded w refl) (c.loop-at.invariant d v s w) c.loop-at-test.false
