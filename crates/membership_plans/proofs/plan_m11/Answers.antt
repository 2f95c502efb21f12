-- By the parts within the hedge and the expression.
use mathlib.Core.Path.{ap, ◌∙◌}
use Rattle.plans.specs.declared.Ways.TheVariants.{One}
use Rattle.plans.specs.Slots.{single}
use Rattle.plans.proofs.Planned.{by_parts}
use Rattle.membership_plans.specs.Recipes.{member_in}
use Rattle.membership_plans.proofs.plan_m11.Goals as goal

pub returns : goal.returns
returns c = let a = c.args in
    by_parts (λ x y. single (One 0) (member_in a.s x.from x.to y.from a.s.end)) (c.single.ensures ∙ ap (single _) c.member_in-first.ensures) c.inner-children.ensures c.inner-part.ensures
