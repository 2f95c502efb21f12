-- Any two outcomes that the contracts of this crate allow coincide.
use mathlib.Core.Path.{sym, ap, ◌∙◌}
use Rattle.language.proofs.Determined.{Determined}
use Rattle.telling.specs.contracts.named_by as Named-by-contract
use Rattle.telling.proofs.named_by.Reads as Named-by-reads
use Rattle.telling.specs.contracts.named_step as named_step-contract
use Rattle.telling.proofs.named_step.Reads as named_step-reads

named-by-determined : Determined Named-by-contract.ended Named-by-reads.Pre Named-by-reads.Post
named-by-determined κs a p o q e d = let x = p.1.0 in ap (λ z. (z, o.1)) (e x.conj x.fine x.words ∙ sym (d x.conj x.fine x.words))

named_step-determined : Determined named_step-contract.ended named_step-reads.Pre named_step-reads.Post
named_step-determined κs a p o q e d = let x = p.1 in ap (λ z. (z, o.1)) (e x.conj x.fine x.words ∙ sym (d x.conj x.fine x.words))
