-- By the parts within the sides.
use Rattle.plans.proofs.Planned.{by_parts}
use Rattle.equation_recipes.specs.Recipes.{equated}
use Rattle.equation_plans.proofs.plan_d0.Goals as goal

pub returns : goal.returns
returns c = let a = c.args in
    by_parts (λ x y. equated a.v x.from x.to y.from y.to) c.equate.ensures c.inner-left.ensures c.inner-right.ensures
