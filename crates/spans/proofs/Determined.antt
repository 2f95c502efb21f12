-- Any two outcomes that a contract of this crate allows coincide.
use mathlib.Core.Path.{sym, ap, ◌∙◌}
use Rattle.language.proofs.Determined.{Determined}
use Rattle.spans.specs.contracts.hedge_end as hedge_end-contract
use Rattle.spans.proofs.hedge_end.Reads as hedge_end-reads
use Rattle.spans.specs.contracts.element_end as element_end-contract
use Rattle.spans.proofs.element_end.Reads as element_end-reads

hedge_end-determined : Determined hedge_end-contract.ended hedge_end-reads.Pre hedge_end-reads.Post
hedge_end-determined κs a p o q e d = ap (λ z. (z, o.1)) (e ∙ sym d)

element_end-determined : Determined element_end-contract.ended element_end-reads.Pre element_end-reads.Post
element_end-determined κs a p o q e d = ap (λ z. (z, o.1)) (e ∙ sym d)
