-- The tests in their order lead to the rank.
use mathlib.Core.Path.{sym, ◌∙◌}
use Rattle.views.proofs.Sides.{side-stands}
use Rattle.finds.proofs.Searches.{ahead-some}
use Rattle.equations.proofs.Leading.{leading-cuts, leading-up-to, leading-open}
use Rattle.equations.proofs.runs.rank_leading.Goals as goal

pub returns-then-free_terms : goal.returns-then-free_terms
returns-then-free_terms c = λ before behind s r w. leading-cuts c.args.p r (sym (c.free_terms.ensures before behind _ r w w.left.fine.0) ∙ c.if-free_terms.true)

pub returns-then-is_some : goal.returns-then-is_some
returns-then-is_some c = λ before behind s r w. leading-up-to c.args.p r (sym (c.free_terms.ensures before behind _ r w w.left.fine.0) ∙ c.if-free_terms.false) (sym (c.is_some.ensures ∙ ahead-some (c.up_to.ensures.0 r _ w.left.fine.0 (side-stands w.right))) ∙ c.if-is_some.true)

pub returns : goal.returns
returns c = λ before behind s r w. leading-open c.args.p r (sym (c.free_terms.ensures before behind _ r w w.left.fine.0) ∙ c.if-free_terms.false) (sym (c.is_some.ensures ∙ ahead-some (c.up_to.ensures.0 r _ w.left.fine.0 (side-stands w.right))) ∙ c.if-is_some.false)
