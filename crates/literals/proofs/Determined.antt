-- Any two outcomes that a contract of this crate allows coincide.
use mathlib.Core.Path.{sym, ap, ◌∙◌}
use Rattle.language.proofs.Determined.{Determined}
use Rattle.literals.specs.contracts.literal_place as literal_place-contract
use Rattle.literals.proofs.literal_place.Reads as literal_place-reads
use Rattle.literals.specs.contracts.literal_number as literal_number-contract
use Rattle.literals.proofs.literal_number.Reads as literal_number-reads

literal_place-determined : Determined literal_place-contract.ended literal_place-reads.Pre literal_place-reads.Post
literal_place-determined κs a p o q e d = ap (λ z. (z, o.1)) (e p.conj p.fine p.words ∙ sym (d p.conj p.fine p.words))

literal_number-determined : Determined literal_number-contract.ended literal_number-reads.Pre literal_number-reads.Post
literal_number-determined κs a p o q e d =
    let s = p.1 in ap (λ z. (z, o.1)) (e.1 s.before s.l s.behind s.stands ∙ sym (d.1 s.before s.l s.behind s.stands))
