-- Any two outcomes that a contract of this crate allows coincide.
use mathlib.Core.Path.{sym, ap, ◌∙◌}
use Rattle.language.proofs.Determined.{Determined}
use Rattle.conjunctions.specs.contracts.read_all as read_all-contract
use Rattle.conjunctions.proofs.read_all.Reads as read_all-reads

read_all-determined : Determined read_all-contract.ended read_all-reads.Pre read_all-reads.Post
read_all-determined κs a p o q e d = ap (λ z. (z, o.1)) (e ∙ sym d)
