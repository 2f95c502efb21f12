-- Any two outcomes that the contract of `step_planned` allows coincide.
use mathlib.Core.Path.{ap, ◌∙◌}
use Rattle.language.proofs.Determined.{Determined}
use Rattle.taking.proofs.One.{took_one}
use Rattle.results.specs.contracts.step_planned as step_planned-contract
use Rattle.results.proofs.step_planned.Reads as step_planned-reads

step_planned-determined : Determined step_planned-contract.ended step_planned-reads.Pre step_planned-reads.Post
step_planned-determined κs a p o q e d =
    let z = took_one _ _ _ _ _ _ _ _ e d in ap (λ r. (r, o.1)) z.0 ∙ ap (λ s. (q.0, (tt, (tt, (tt, (s, (tt, tt))))))) z.1
