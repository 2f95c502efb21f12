-- Any two outcomes that the contract of `find` allows coincide.
use mathlib.Core.Path.{sym, ap, ◌∙◌}
use Rattle.language.proofs.Determined.{Determined}
use Rattle.search.specs.contracts.find as find-contract
use Rattle.search.proofs.find.Reads as find-reads

find-determined : Determined find-contract.ended find-reads.Pre find-reads.Post
find-determined κs a p o q e d = let x = p.1.0 in ap (λ z. (z, o.1)) (e.1 x.conj x.fine x.words ∙ sym (d.1 x.conj x.fine x.words))
