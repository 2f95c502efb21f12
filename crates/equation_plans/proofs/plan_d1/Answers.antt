-- The terms of the right side's children are counted.
use mathlib.Core.Path.{sym, subst, ◌∙◌}
use Rattle.plans.specs.declared.Within.{Within}
use Rattle.plans.proofs.Planned.{by_parts}
use Rattle.views.specs.Standing.{Stands}
use Rattle.equation_recipes.specs.Recipes.{reordered}
use Rattle.equation_recipes.proofs.Unordered.{d1-is}
use Rattle.equation_plans.proofs.plan_d1.Goals as goal

pub returns : goal.returns
returns c = λ σ l r a.
    by_parts (λ x y. reordered c.args.v x y c.all_terms-terms.result.count) c.reorder.ensures c.inner-left.ensures c.inner-right.ensures
    ∙ d1-is σ _ _ c.all_terms-terms.result (λ h beyond s. c.all_terms-terms.ensures.0 h beyond (subst (λ (x : Within). Stands c.args.k.now x.from h beyond) (sym c.inner-right.ensures) s)) l r a
