-- By the part within the left side.
use mathlib.Core.Path.{ap, ◌∙◌}
use Rattle.plans.specs.declared.Within.{Within}
use Rattle.plans.specs.Slots.{single}
use Rattle.equation_recipes.specs.Recipes.{tried}
use Rattle.elimination_plans.proofs.plan_e7.Goals as goal

pub returns : goal.returns
returns c = c.single.ensures ∙ ap (single _) c.full-first.ensures ∙ ap (λ (a : Within). tried c.args.v a c.args.symbols) c.inner-left.ensures
