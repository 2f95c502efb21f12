-- By the parts within the sides.
use mathlib.Core.Path.{ap, ◌∙◌}
use Rattle.plans.specs.Slots.{single}
use Rattle.plans.proofs.Planned.{by_parts}
use Rattle.equation_recipes.specs.Recipes.{functored}
use Rattle.elimination_plans.proofs.plan_e6.Goals as goal

pub returns : goal.returns
returns c = let a = c.args in
    by_parts (functored a.v) (c.single.ensures ∙ ap (single _) c.full-first.ensures) c.inner-left.ensures c.inner-right.ensures
