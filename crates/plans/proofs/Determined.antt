-- Any two outcomes that a contract of this crate allows coincide.
use mathlib.Core.Path.{sym, ap, ◌∙◌}
use Rattle.language.proofs.Determined.{Determined}
use Rattle.plans.specs.contracts.inner as inner-contract
use Rattle.plans.proofs.inner.Reads as inner-reads
use Rattle.plans.specs.contracts.grow as grow-contract
use Rattle.plans.proofs.grow.Reads as grow-reads
use Rattle.plans.specs.contracts.grow_by as grow_by-contract
use Rattle.plans.proofs.grow_by.Reads as grow_by-reads

inner-determined : Determined inner-contract.ended inner-reads.Pre inner-reads.Post
inner-determined κs a p o q e d = ap (λ z. (z, o.1)) (e ∙ sym d)

grow-determined : Determined grow-contract.ended grow-reads.Pre grow-reads.Post
grow-determined κs a p o q e d = ap (λ z. (z, o.1)) (e ∙ sym d)

grow_by-determined : Determined grow_by-contract.ended grow_by-reads.Pre grow_by-reads.Post
grow_by-determined κs a p o q e d = ap (λ z. (z, o.1)) (e ∙ sym d)
