use mathlib.Core.Path.{refl}
use native.Mathlib.Omega.{arith}
use Rattle.values.proofs.Walks.{walk_start}
use Rattle.values.proofs.Places.{worded, expressed-here, seeking-on, expressed-nowhere}
use Rattle.values.proofs.bindings.expression_of.Goals as goal

pub loop-at-init : goal.loop-at-init
loop-at-init c = λ d v s w. walk_start refl

pub returns-then-e-ne0 : goal.returns-then-e-ne0
returns-then-e-ne0 c = λ d v s w. expressed-here s (worded w refl) (c.loop-at.invariant d v s w) c.loop-at-test.true (λ b l e a. c.expression_at-e.ensures b l e v a w) c.if-e-ne0.true

pub loop-at-smaller : goal.loop-at-smaller
loop-at-smaller c = omega arith

pub loop-at-preserved : goal.loop-at-preserved
loop-at-preserved c = λ d v s w. seeking-on s (worded w refl) (c.loop-at.invariant d v s w) c.loop-at-test.true (λ b l e a. c.expression_at-e.ensures b l e v a w) c.if-e-ne0.false c.next_literal-at.ensures

pub returns : goal.returns
returns c = λ d v s w. expressed-nowhere s (worded w refl) (c.loop-at.invariant d v s w) c.loop-at-test.false
