-- Any two outcomes that a contract of this crate allows coincide.
use mathlib.Core.Path.{sym, ap, ◌∙◌}
use Rattle.language.proofs.Determined.{Determined}
use Rattle.equation_plans.specs.contracts.plan_equation as plan-equation-contract
use Rattle.equation_plans.proofs.plan_equation.Reads as plan-equation-reads

plan_equation-determined : Determined plan-equation-contract.ended plan-equation-reads.Pre plan-equation-reads.Post
plan_equation-determined κs a p o q e d = ap (λ z. (z, o.1)) (e.whole p.l p.r p.applies ∙ sym (d.whole p.l p.r p.applies))
