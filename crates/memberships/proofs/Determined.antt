-- Any two outcomes that a contract of this crate allows coincide.
use mathlib.Core.Path.{sym, ap, ◌∙◌}
use Rattle.language.proofs.Determined.{Determined}
use Rattle.memberships.specs.contracts.rank_membership as rank-membership-contract
use Rattle.memberships.proofs.rank_membership.Reads as rank-membership-reads

rank_membership-determined : Determined rank-membership-contract.ended rank-membership-reads.Pre rank-membership-reads.Post
rank_membership-determined κs a p o q e d = ap (λ z. (z, o.1)) (e p.before p.h p.R p.behind p.shows ∙ sym (d p.before p.h p.R p.behind p.shows))
