-- Any two outcomes that a contract of this crate allows coincide.
use mathlib.Core.Path.{sym, ap, ◌∙◌}
use Rattle.language.proofs.Determined.{Determined}
use Rattle.equations.specs.contracts.rank_equation as rank-equation-contract
use Rattle.equations.proofs.rank_equation.Reads as rank-equation-reads

rank_equation-determined : Determined rank-equation-contract.ended rank-equation-reads.Pre rank-equation-reads.Post
rank_equation-determined κs a p o q e d = ap (λ z. (z, o.1)) (e p.before p.behind p.l p.r p.sees p.counts ∙ sym (d p.before p.behind p.l p.r p.sees p.counts))
