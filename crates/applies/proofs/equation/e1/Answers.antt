-- Each part of the test is so of the trees.
use mathlib.Core.Path.{ap}
use mathlib.Core.Bool.{not}
use Rattle.applies.specs.Parts.{single, lone_variable}
use Rattle.applies.proofs.Reading.{both, read, variable-held, variable-there}
use Rattle.applies.proofs.equation.e1.Goals as goal

pub returns : goal.returns
returns c = λ before behind l r w. both c.and-3.ensures (read w.left lone_variable c.lone_variable.ensures) (both c.and-2.ensures (read w.right single c.single.ensures) (both c.and-bound.ensures (ap not (variable-held w c.variable_of.ensures c.term_word-x.ensures c.stands-held.ensures)) (both c.and.ensures (variable-there w w.left c.variable_of.ensures c.term_word-x.ensures c.elsewhere-there.ensures) (c.variable_too.ensures before behind l r w))))
