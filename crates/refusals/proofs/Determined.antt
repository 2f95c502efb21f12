-- Any two outcomes that a contract of this crate allows coincide.
use mathlib.Core.Path.{sym, ap, ◌∙◌}
use Rattle.language.proofs.Determined.{Determined}
use Rattle.refusals.specs.contracts.number as number-contract
use Rattle.refusals.proofs.number.Reads as number-reads
use Rattle.refusals.specs.contracts.place as place-contract
use Rattle.refusals.proofs.place.Reads as place-reads

number-determined : Determined number-contract.ended number-reads.Pre number-reads.Post
number-determined κs a p o q e d = ap (λ z. (z, o.1)) (e ∙ sym d)

place-determined : Determined place-contract.ended place-reads.Pre place-reads.Post
place-determined κs a p o q e d = ap (λ z. (z, o.1)) (e ∙ sym d)
