-- Each part of the test is so of the trees.
use Rattle.applies.specs.Parts.{lone_variable}
use Rattle.applies.proofs.Reading.{both, read, hidden}
use Rattle.applies.proofs.equation.f1.Goals as goal

pub returns : goal.returns
returns c = λ before behind l r w. both c.and.ensures (read w.left lone_variable c.lone_variable.ensures) (hidden w c.variable_of.ensures c.under-below.ensures.0)
