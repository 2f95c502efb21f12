-- Any two outcomes that the contract of `take_step` allows coincide.
use mathlib.Core.Path.{ap, ◌∙◌}
use Rattle.language.proofs.Determined.{Determined}
use Rattle.taking.proofs.One.{took_one}
use Rattle.steps.specs.contracts.take_step as take_step-contract
use Rattle.steps.proofs.take_step.Reads as take_step-reads

take-step-determined : Determined take_step-contract.ended take_step-reads.Pre take_step-reads.Post
take-step-determined κs a p o q e d =
    let m = p.1 in
    let z =
    took_one _ _ _ _ _ _ _ _ (e m.before m.l m.behind m.made m.stands m.applies) (d m.before m.l m.behind m.made m.stands m.applies)
    in
    ap (λ r. (r, o.1)) z.0 ∙ ap (λ s. (q.0, (tt, (tt, (tt, (tt, (s, (tt, tt)))))))) z.1
