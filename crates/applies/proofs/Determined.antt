-- Any two outcomes that a contract of this crate allows coincide.
use mathlib.Core.Path.{sym, ap, ◌∙◌}
use Rattle.language.proofs.Determined.{Determined}
use Rattle.applies.specs.contracts.literal_applies as literal-applies-contract
use Rattle.applies.proofs.literal_applies.Reads as literal-applies-reads

literal_applies-determined : Determined literal-applies-contract.ended literal-applies-reads.Pre literal-applies-reads.Post
literal_applies-determined κs a p o q e d =
    let s = p.1.0 in ap (λ z. (z, o.1)) (e s.before s.l s.behind s.stands ∙ sym (d s.before s.l s.behind s.stands))
