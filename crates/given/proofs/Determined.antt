-- Any two outcomes that a contract of this crate allows coincide.
use mathlib.Core.Path.{sym, ap, ◌∙◌}
use Rattle.language.proofs.Determined.{Determined}
use Rattle.given.specs.contracts.read_filling as read-filling-contract
use Rattle.given.proofs.read_filling.Reads as read-filling-reads

read_filling-determined : Determined read-filling-contract.ended read-filling-reads.Pre read-filling-reads.Post
read_filling-determined κs a p o q e d = ap (λ z. (z, o.1)) (e ∙ sym d)
