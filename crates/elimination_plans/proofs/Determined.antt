-- Any two outcomes that a contract of this crate allows coincide.
use mathlib.Core.Path.{sym, ap, ◌∙◌}
use Rattle.language.proofs.Determined.{Determined}
use Rattle.elimination_plans.specs.contracts.plan_elimination as plan-elimination-contract
use Rattle.elimination_plans.proofs.plan_elimination.Reads as plan-elimination-reads

plan_elimination-determined : Determined plan-elimination-contract.ended plan-elimination-reads.Pre plan-elimination-reads.Post
plan_elimination-determined κs a p o q e d = let r = p.0 in ap (λ z. (z, o.1)) (e.whole r.l r.r r.applies ∙ sym (d.whole r.l r.r r.applies))
