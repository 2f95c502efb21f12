-- Any two outcomes that a contract of this crate allows coincide.
use mathlib.Core.Path.{sym, ap, ◌∙◌}
use Rattle.language.proofs.Determined.{Determined}
use Rattle.sharing.specs.contracts.first_shared as first_shared-contract
use Rattle.sharing.proofs.first_shared.Reads as first_shared-reads

first_shared-determined : Determined first_shared-contract.ended first_shared-reads.Pre first_shared-reads.Post
first_shared-determined κs a p o q e d = ap (λ z. (z, o.1)) (e ∙ sym d)
