-- Any two outcomes that a contract of this crate allows coincide.
use mathlib.Core.Path.{ap}
use Rattle.language.proofs.Determined.{Determined}
use Rattle.finds.proofs.Firsts.{walked_one}
use Rattle.spots.specs.contracts.has_term as has_term-contract
use Rattle.spots.proofs.has_term.Reads as has_term-reads
use Rattle.spots.specs.contracts.under as under-contract
use Rattle.spots.proofs.under.Reads as under-reads
use Rattle.spots.specs.contracts.inside as inside-contract
use Rattle.spots.proofs.inside.Reads as inside-reads

has_term-determined : Determined has_term-contract.ended has_term-reads.Pre has_term-reads.Post
has_term-determined κs a p o q e d = ap (λ z. (z, o.1)) (walked_one e.1 d.1)

under-determined : Determined under-contract.ended under-reads.Pre under-reads.Post
under-determined κs a p o q e d = ap (λ z. (z, o.1)) (walked_one e.1 d.1)

inside-determined : Determined inside-contract.ended inside-reads.Pre inside-reads.Post
inside-determined κs a p o q e d = ap (λ z. (z, o.1)) (walked_one e.1 d.1)
