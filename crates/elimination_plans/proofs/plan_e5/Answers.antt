-- By the parts within the sides.
use Rattle.plans.proofs.Planned.{by_parts}
use Rattle.equation_recipes.specs.Recipes.{eliminated}
use Rattle.elimination_plans.proofs.plan_e5.Goals as goal

pub returns : goal.returns
returns c = let a = c.args in
    by_parts (λ x y. eliminated a.v x.from y.from) c.eliminate.ensures c.inner-left.ensures c.inner-right.ensures
