-- Any two outcomes that a contract of this crate allows coincide.
use mathlib.Core.Path.{sym, ap, ◌∙◌}
use Rattle.language.proofs.Determined.{Determined}
use Rattle.folding.specs.contracts.first_twice as first_twice-contract
use Rattle.folding.proofs.first_twice.Reads as first_twice-reads
use Rattle.folding.specs.contracts.later_equal as later_equal-contract
use Rattle.folding.proofs.later_equal.Reads as later_equal-reads

first_twice-determined : Determined first_twice-contract.ended first_twice-reads.Pre first_twice-reads.Post
first_twice-determined κs a p o q e d = let c = p.1 in ap (λ z. (z, o.1)) (e c.conj c.fine c.words ∙ sym (d c.conj c.fine c.words))

later_equal-determined : Determined later_equal-contract.ended later_equal-reads.Pre later_equal-reads.Post
later_equal-determined κs a p o q e d =
    let s = p.1 in ap (λ z. (z, o.1)) (e s.before s.l s.behind s.stands ∙ sym (d s.before s.l s.behind s.stands))
