-- By the parts within the hedge and the expression.
use mathlib.Core.Path.{ap, ◌∙◌}
use Rattle.plans.specs.Slots.{single}
use Rattle.plans.proofs.Planned.{by_parts}
use Rattle.membership_plans.specs.Recipes.{named}
use Rattle.membership_plans.proofs.plan_m10.Goals as goal

pub returns : goal.returns
returns c = let a = c.args in
    by_parts (named a.s) (c.single.ensures ∙ ap (single _) c.full-first.ensures) c.inner-left.ensures c.inner-right.ensures
