use native.Mathlib.Omega.{arith}
use mathlib.Core.Path.{◌∙◌}
use Rattle.text_names.proofs.Letters.{alike-starts, apart, both_end, alike-on, first_ends}
use Rattle.text_names.proofs.same_name.Goals as goal

pub loop-i-init : goal.loop-i-init
loop-i-init c = alike-starts _ _ _

pub returns-then-x-y : goal.returns-then-x-y
returns-then-x-y c = apart _ _ _ c.loop-i.invariant c.letter_at-x.ensures c.letter_at-y.ensures c.if-x-y.true

pub returns-then-x-eq0 : goal.returns-then-x-eq0
returns-then-x-eq0 c = both_end _ _ _ c.loop-i.invariant c.letter_at-x.ensures c.letter_at-y.ensures c.if-x-y.false c.if-x-eq0.true

pub overflow_add-i : goal.overflow_add-i
overflow_add-i c = omega arith

pub overflow_add-j : goal.overflow_add-j
overflow_add-j c = let f = c.letter_at-y.ensures.within (λ z. c.if-x-eq0.false (c.if-x-y.false ∙ z)) in omega arith

pub loop-i-smaller : goal.loop-i-smaller
loop-i-smaller c = omega arith

pub loop-i-preserved : goal.loop-i-preserved
loop-i-preserved c = alike-on _ _ _ c.loop-i.invariant c.letter_at-x.ensures c.letter_at-y.ensures c.if-x-y.false c.if-x-eq0.false

pub returns : goal.returns
returns c = first_ends _ _ _ c.loop-i.invariant (omega arith) c.letter_at.ensures
