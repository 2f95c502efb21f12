-- By the place where the first part ends.
use mathlib.Core.Path.{ap, subst, ◌∙◌}
use Rattle.plans.specs.declared.Within.{Within}
use Rattle.expressions.specs.Standing.{Parted}
use Rattle.membership_plans.specs.Recipes.{shared, expr_inner}
use Rattle.membership_plans.proofs.Plain.{by_two, m5-is}
use Rattle.membership_plans.proofs.plan_m5.Goals as goal

pub returns : goal.returns
returns c = λ h R b.
    let a = c.args in
    let i = c.inner-within in
    let q = c.pass-part in
    by_two c.in_first-first.ensures c.in_second-second.ensures
    ∙ ap (λ (x : Within). shared a.s x.from q.result.end) i.ensures
    ∙ m5-is (subst (λ (x : Within). Parted a.k.now x.from q.result) i.ensures q.ensures) (shared a.s (expr_inner a.k.now a.s).from) h R b
