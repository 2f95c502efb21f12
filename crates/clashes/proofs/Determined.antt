-- Any two outcomes that a contract of this crate allows coincide.
use mathlib.Core.Path.{sym, ap, ◌∙◌}
use Rattle.language.proofs.Determined.{Determined}
use Rattle.clashes.specs.contracts.first_clash as first_clash-contract
use Rattle.clashes.proofs.first_clash.Reads as first_clash-reads
use Rattle.clashes.specs.contracts.test_behind as test_behind-contract
use Rattle.clashes.proofs.test_behind.Reads as test_behind-reads

first_clash-determined : Determined first_clash-contract.ended first_clash-reads.Pre first_clash-reads.Post
first_clash-determined κs a p o q e d = let x = p.1 in ap (λ z. (z, o.1)) (e x.conj x.fine x.words ∙ sym (d x.conj x.fine x.words))

test_behind-determined : Determined test_behind-contract.ended test_behind-reads.Pre test_behind-reads.Post
test_behind-determined κs a p o q e d =
    let s = p.1 in ap (λ z. (z, o.1)) (e s.before s.l s.behind s.stands ∙ sym (d s.before s.l s.behind s.stands))
