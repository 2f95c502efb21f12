-- Each part of the test is so of the trees.
use mathlib.Core.Path.{ap}
use mathlib.Core.Bool.{not}
use Rattle.applies.specs.Parts.{is_term, is_last}
use Rattle.applies.proofs.Reading.{both, read}
use Rattle.applies.proofs.equation.d2.Goals as goal

pub returns : goal.returns
returns c = λ before behind l r w. both c.and-2.ensures (read w.left is_term c.is_term.ensures) (both c.and.ensures (read w.right is_term c.is_term-2.ensures) (ap not (both c.and-ends.ensures (read w.left is_last c.is_last.ensures) (read w.right is_last c.is_last-2.ensures))))
