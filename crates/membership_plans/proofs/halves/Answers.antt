-- By the place where the first part ends.
use mathlib.Core.Path.{ap, subst, ◌∙◌}
use Rattle.plans.specs.declared.Within.{Within}
use Rattle.expressions.specs.Standing.{Parted}
use Rattle.membership_plans.specs.Recipes.{halved, expr_inner}
use Rattle.membership_plans.proofs.Plain.{by_two, m6-is, m7-is}
use Rattle.membership_plans.proofs.halves.Goals as goal

pub returns : goal.returns
returns c = let a = c.args in
    let i = c.inner-within in
    let q = c.pass-part in
    let e = by_two c.member_in-first.ensures c.member_in-second.ensures ∙ ap (λ (x : Within). halved a.s x.from q.result.end) i.ensures in
    let p = subst (λ (x : Within). Parted a.k.now x.from q.result) i.ensures q.ensures in
    (λ h R b. e ∙ m6-is p (halved a.s (expr_inner a.k.now a.s).from) h R b, λ h R b. e ∙ m7-is p (halved a.s (expr_inner a.k.now a.s).from) h R b)
