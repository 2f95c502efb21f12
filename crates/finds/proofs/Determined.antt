-- Any two outcomes that a contract of this crate allows coincide.
use mathlib.Core.Path.{ap}
use Rattle.language.proofs.Determined.{Determined}
use Rattle.finds.proofs.Firsts.{walked_one}
use Rattle.finds.specs.contracts.all_terms as all_terms-contract
use Rattle.finds.proofs.all_terms.Reads as all_terms-reads
use Rattle.finds.specs.contracts.up_to as up_to-contract
use Rattle.finds.proofs.up_to.Reads as up_to-reads

all_terms-determined : Determined all_terms-contract.ended all_terms-reads.Pre all_terms-reads.Post
all_terms-determined κs a p o q e d = ap (λ z. (z, o.1)) (walked_one e.2 d.2)

up_to-determined : Determined up_to-contract.ended up_to-reads.Pre up_to-reads.Post
up_to-determined κs a p o q e d = ap (λ z. (z, o.1)) (walked_one e.2 d.2)
