-- Any two outcomes that a contract of this crate allows coincide.
use mathlib.Core.Path.{sym, ap, ◌∙◌}
use Rattle.language.proofs.Determined.{Determined}
use Rattle.recipes.specs.contracts.full as full-contract
use Rattle.recipes.proofs.full.Reads as full-reads
use Rattle.recipes.specs.contracts.few as few-contract
use Rattle.recipes.proofs.few.Reads as few-reads
use Rattle.recipes.specs.contracts.single as single-contract
use Rattle.recipes.proofs.single.Reads as single-reads
use Rattle.recipes.specs.contracts.plan_drop as plan_drop-contract
use Rattle.recipes.proofs.plan_drop.Reads as plan_drop-reads

full-determined : Determined full-contract.ended full-reads.Pre full-reads.Post
full-determined κs a p o q e d = ap (λ z. (z, o.1)) (e ∙ sym d)

few-determined : Determined few-contract.ended few-reads.Pre few-reads.Post
few-determined κs a p o q e d = ap (λ z. (z, o.1)) (e ∙ sym d)

single-determined : Determined single-contract.ended single-reads.Pre single-reads.Post
single-determined κs a p o q e d = ap (λ z. (z, o.1)) (e ∙ sym d)

plan_drop-determined : Determined plan_drop-contract.ended plan_drop-reads.Pre plan_drop-reads.Post
plan_drop-determined κs a p o q e d = ap (λ z. (z, o.1)) (e ∙ sym d)
