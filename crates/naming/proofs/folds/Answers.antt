-- `folds`: the literal stands again where its place is within the words.
use mathlib.Core.Path.{ap, ◌∙◌}
use mathlib.Core.Bool.{not, ◌&&◌}
use Rattle.naming.proofs.Laws.{stands-again}
use Rattle.naming.proofs.folds.Goals as goal

pub returns : goal.returns
returns c = λ before l behind s. c.and.ensures ∙ ap (λ b. not c.args.swap && b) (stands-again s _ (c.later_equal.ensures before l behind s))
