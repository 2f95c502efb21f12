-- The terms of the hedge's children are counted.
use mathlib.Core.Path.{sym, subst, ◌∙◌}
use Rattle.plans.specs.declared.Within.{Within}
use Rattle.plans.proofs.Planned.{by_parts}
use Rattle.views.specs.Standing.{Stands}
use Rattle.membership_plans.specs.Recipes.{reordered}
use Rattle.membership_plans.proofs.Reordering.{m12-is}
use Rattle.membership_plans.proofs.plan_m12.Goals as goal

pub returns : goal.returns
returns c = λ σ h R b.
    let a = c.args in
    let t = c.all_terms-terms in
    let i = c.inner-children in
    by_parts (λ x y. reordered a.s x y t.result.count) c.reorder.ensures i.ensures c.inner-part.ensures
    ∙ m12-is σ _ _ t.result (λ g beyond d. t.ensures.0 g beyond (subst (λ (x : Within). Stands a.k.now x.from g beyond) (sym i.ensures) d)) h R b
