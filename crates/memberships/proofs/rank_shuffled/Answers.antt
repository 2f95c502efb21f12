-- Whether the children are terms decides.
use mathlib.Core.Path.{ap, sym, ◌∙◌}
use Rattle.language.specs.Kinds.{pick}
use Rattle.rules.specs.Places.{at_m12, no_rule}
use Rattle.plans.proofs.Sides.{children-stand}
use Rattle.memberships.proofs.rank_shuffled.Goals as goal

pub returns-then-terms : goal.returns-then-terms
returns-then-terms c = λ F h r beyond s. ap (λ b. pick b at_m12 no_rule) (sym c.if-terms.true ∙ (c.all_terms-terms.ensures.0 h _ (children-stand s (ap (λ o. o.from) c.inner-c.ensures))).all)

pub returns-else-terms : goal.returns-else-terms
returns-else-terms c = λ F h r beyond s. ap (λ b. pick b at_m12 no_rule) (sym c.if-terms.false ∙ (c.all_terms-terms.ensures.0 h _ (children-stand s (ap (λ o. o.from) c.inner-c.ensures))).all)
