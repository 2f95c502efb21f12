-- The look of the right side leads to the rank.
use mathlib.Core.Path.{sym, ◌∙◌}
use mathlib.Core.List.{◌++◌}
use Rattle.equations.proofs.Variables.{empty-empty, empty-term, empty-node, empty-run, empty_runs}
use Rattle.views.proofs.Sides.{side-stands}
use Rattle.equations.proofs.terms.rank_empty.Goals as goal

pub returns-then-has_term : goal.returns-then-has_term
returns-then-has_term c = λ r t σ before behind w q. empty-run σ (before ++ behind) r (sym c.in-Run.is ∙ w.right.look) (sym (c.has_term.ensures.0 r _ (side-stands w.right)) ∙ c.if-has_term.true)

pub returns-in-Empty : goal.returns-in-Empty
returns-in-Empty c = λ r t σ before behind w q. empty-empty σ (before ++ behind) r (sym c.in-Empty.is ∙ w.right.look)

pub returns-in-Term : goal.returns-in-Term
returns-in-Term c = λ r t σ before behind w q. empty-term σ (before ++ behind) r (sym c.in-Term.is ∙ w.right.look)

pub returns-else-has_term : goal.returns-else-has_term
returns-else-has_term c = λ r t σ before behind w q. empty_runs σ (before ++ behind) r (sym c.in-Run.is ∙ w.right.look) (sym (c.has_term.ensures.0 r _ (side-stands w.right)) ∙ c.if-has_term.false)

pub returns-in-Node : goal.returns-in-Node
returns-in-Node c = λ r t σ before behind w q. empty-node σ (before ++ behind) r (sym c.in-Node.is ∙ w.right.look)
