-- By the part behind the variable.
use mathlib.Core.Path.{ap, ◌∙◌}
use Rattle.plans.specs.declared.Within.{Within}
use Rattle.plans.specs.Slots.{single}
use Rattle.equation_recipes.specs.Recipes.{struck}
use Rattle.elimination_plans.proofs.strike.Goals as goal

pub returns : goal.returns
returns c = let a = c.args in
    c.single.ensures ∙ ap (single _) c.full-first.ensures ∙ ap (λ (b : Within). struck a.v a.i b.from) c.inner-behind.ensures
