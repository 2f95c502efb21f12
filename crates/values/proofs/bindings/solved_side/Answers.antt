-- The side seen first solves the variable that it is, where that stands nowhere else.
use mathlib.Core.Path.{◌∙◌}
use Rattle.alone.proofs.Sides.{alone-sees}
use Rattle.values.proofs.Looks.{solved-word, unsolved-word}
use Rattle.values.proofs.bindings.solved_side.Goals as goal

pub returns-then-alone_side : goal.returns-then-alone_side
returns-then-alone_side c = λ before l r behind s. solved-word s (c.alone_side.ensures ∙ alone-sees s) c.if-alone_side.true c.side_variable.ensures c.lone_word.ensures

pub returns : goal.returns
returns c = λ before l r behind s. unsolved-word s (c.alone_side.ensures ∙ alone-sees s) c.if-alone_side.false
