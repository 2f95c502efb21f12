-- Any two outcomes that the contract of `step_monomials` allows coincide.
use mathlib.Core.Path.{ap, ◌∙◌}
use Rattle.language.proofs.Determined.{Determined}
use Rattle.taking.proofs.One.{took_one}
use Rattle.linear_form.specs.contracts.step_monomials as step_monomials-contract
use Rattle.linear_form.proofs.step_monomials.Reads as step_monomials-reads

step_monomials-determined : Determined step_monomials-contract.ended step_monomials-reads.Pre step_monomials-reads.Post
step_monomials-determined κs a p o q e d =
    let m = p.1 in
    let z = took_one _ _ _ _ _ _ _ _ (e m.before m.h m.R m.behind m.stands) (d m.before m.h m.R m.behind m.stands) in
    ap (λ r. (r, o.1)) z.0 ∙ ap (λ s. (q.0, (tt, (tt, (tt, (s, (tt, tt))))))) z.1
