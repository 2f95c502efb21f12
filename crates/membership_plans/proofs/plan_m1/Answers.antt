-- By the part within the hedge.
use mathlib.Core.Path.{ap, ◌∙◌}
use Rattle.plans.specs.declared.Within.{Within}
use Rattle.plans.specs.Slots.{single}
use Rattle.membership_plans.specs.Recipes.{vanished}
use Rattle.membership_plans.proofs.plan_m1.Goals as goal

pub returns : goal.returns
returns c = let a = c.args in
    c.single.ensures ∙ ap (single _) c.few-first.ensures ∙ ap (λ (b : Within). vanished a.s b.to) c.inner-part.ensures
