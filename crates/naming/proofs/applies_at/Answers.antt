-- `applies_at`: the fold, or a rule of one literal.
use mathlib.Core.Path.{◌∙◌}
use Rattle.naming.proofs.Laws.{literal-makes, fold-makes}
use Rattle.naming.proofs.applies_at.Goals as goal

pub returns-then-rank-eq-AT_FOLD : goal.returns-then-rank-eq-AT_FOLD
returns-then-rank-eq-AT_FOLD c = λ before l behind s. c.folds.ensures before l behind s ∙ fold-makes before behind c.args.s _ c.if-rank-eq-AT_FOLD.true l c.args.swap

pub returns : goal.returns
returns c = λ before l behind s.
    c.literal_applies.ensures before l behind s
    ∙ literal-makes before behind c.args.s c.args.rank c.if-rank-eq-AT_FOLD.false c.requires.at_in_bounds.1 c.args.swap l
