-- By what was laid open.
use Rattle.std.proofs.Common.{Some, eqb}
use mathlib.Core.Path.{ap, ◌∙◌}
use Rattle.state_classes.proofs.Opening.{nothing-none, nothing-one, nothing-two}
use Rattle.state_classes.proofs.tails.is_nothing.Goals as goal

pub returns-in-None : goal.returns-in-None
returns-in-None c = nothing-none c.in-None.is

pub returns-in-One : goal.returns-in-One
returns-in-One c = nothing-one (c.in-Some.is ∙ ap Some c.in-One.is) (ap (λ x. eqb x 7000) c.word.ensures)

pub returns-in-Two : goal.returns-in-Two
returns-in-Two c = nothing-two (c.in-Some.is ∙ ap Some c.in-Two.is)
