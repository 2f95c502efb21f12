-- Any two outcomes that a contract of this crate allows coincide.
use mathlib.Core.Path.{sym, ap, ◌∙◌}
use Rattle.language.proofs.Determined.{Determined}
use Rattle.membership_plans.specs.contracts.plan_membership as plan-membership-contract
use Rattle.membership_plans.proofs.plan_membership.Reads as plan-membership-reads

plan_membership-determined : Determined plan-membership-contract.ended plan-membership-reads.Pre plan-membership-reads.Post
plan_membership-determined κs a p o q e d = ap (λ z. (z, o.1)) (e.whole p.σ p.h p.R p.applies ∙ sym (d.whole p.σ p.h p.R p.applies))
