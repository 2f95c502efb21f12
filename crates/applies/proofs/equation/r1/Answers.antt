-- Each part of the test is so of the trees.
use mathlib.Core.Path.{◌∙◌}
use Rattle.views.proofs.Same.{same-sides}
use Rattle.applies.proofs.equation.r1.Goals as goal

pub returns : goal.returns
returns c = λ before behind l r w. c.same_part.ensures ∙ same-sides w.left w.right
