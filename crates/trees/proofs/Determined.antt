-- Any two outcomes that a contract of this crate allows coincide.
use mathlib.Core.Path.{sym, ap, ◌∙◌}
use Rattle.language.proofs.Determined.{Determined}
use Rattle.trees.specs.contracts.read_hedge as read-hedge-contract
use Rattle.trees.proofs.read_hedge.Reads as read-hedge-reads
use Rattle.trees.specs.contracts.read_literal as read-literal-contract
use Rattle.trees.proofs.read_literal.Reads as read-literal-reads

read_hedge-determined : Determined read-hedge-contract.ended read-hedge-reads.Pre read-hedge-reads.Post
read_hedge-determined κs a p o q e d = ap (λ z. (z, o.1)) (e ∙ sym d)

read_literal-determined : Determined read-literal-contract.ended read-literal-reads.Pre read-literal-reads.Post
read_literal-determined κs a p o q e d = ap (λ z. (z, o.1)) (e ∙ sym d)
