-- By the part within the right side.
use mathlib.Core.Path.{ap, ◌∙◌}
use Rattle.plans.specs.declared.Within.{Within}
use Rattle.equation_recipes.specs.Recipes.{eliminated}
use Rattle.elimination_plans.proofs.plan_e1.Goals as goal

pub returns : goal.returns
returns c = let a = c.args in
    c.eliminate.ensures ∙ ap (λ (b : Within). eliminated a.v a.v.l.rest b.to) c.inner-right.ensures
