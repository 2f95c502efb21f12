-- The literal at a place shows a variable's expression if it is a membership in whose hedge the variable's word stands.
use Rattle.values.proofs.Places.{worded, shown-other, shown-held, shown-unheld}
use Rattle.values.proofs.bindings.expression_at.Goals as goal

pub returns-then-k-at-ne6000 : goal.returns-then-k-at-ne6000
returns-then-k-at-ne6000 c = λ before l behind v a w. shown-other a c.if-k-at-ne6000.true

pub returns-then-stands : goal.returns-then-stands
returns-then-stands c = λ before l behind v a n. let w = worded n c.word_of.ensures in search (shown-held)

pub returns : goal.returns
returns c = λ before l behind v a n. let w = worded n c.word_of.ensures in search (shown-unheld)
