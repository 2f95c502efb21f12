-- Any two outcomes that a contract of this crate allows coincide.
use mathlib.Core.Path.{sym, ap, ◌∙◌}
use Rattle.language.proofs.Determined.{Determined}
use Rattle.naming.specs.contracts.applies_at as applies_at-contract
use Rattle.naming.proofs.applies_at.Reads as applies_at-reads

applies_at-determined : Determined applies_at-contract.ended applies_at-reads.Pre applies_at-reads.Post
applies_at-determined κs a p o q e d =
    let s = p.1.0 in ap (λ z. (z, o.1)) (e s.before s.l s.behind s.stands ∙ sym (d s.before s.l s.behind s.stands))
