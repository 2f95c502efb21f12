-- Each part of the test is so of the trees.
use mathlib.Core.Path.{ap}
use mathlib.Core.Bool.{not}
use Rattle.applies.specs.Parts.{lone_variable}
use Rattle.applies.proofs.Reading.{one, read, variable-there}
use Rattle.applies.proofs.equation.variable_too.Goals as goal

pub returns : goal.returns
returns c = λ before behind l r w. one c.or.ensures (ap not (read w.right lone_variable c.lone_variable-lone.ensures)) (variable-there w w.right c.variable_of.ensures c.term_word.ensures c.elsewhere-there.ensures)
