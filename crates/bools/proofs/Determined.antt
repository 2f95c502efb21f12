-- Any two outcomes that a contract of this crate allows coincide.
use mathlib.Core.Path.{sym, ap, ◌∙◌}
use Rattle.language.proofs.Determined.{Determined}
use Rattle.bools.specs.contracts.and as and-contract
use Rattle.bools.proofs.and.Reads as and-reads
use Rattle.bools.specs.contracts.or as or-contract
use Rattle.bools.proofs.or.Reads as or-reads
use Rattle.bools.specs.contracts.neither as neither-contract
use Rattle.bools.proofs.neither.Reads as neither-reads
use Rattle.bools.specs.contracts.truth as truth-contract
use Rattle.bools.proofs.truth.Reads as truth-reads

and-determined : Determined and-contract.ended and-reads.Pre and-reads.Post
and-determined κs a p o q e d = ap (λ z. (z, o.1)) (e ∙ sym d)

or-determined : Determined or-contract.ended or-reads.Pre or-reads.Post
or-determined κs a p o q e d = ap (λ z. (z, o.1)) (e ∙ sym d)

neither-determined : Determined neither-contract.ended neither-reads.Pre neither-reads.Post
neither-determined κs a p o q e d = ap (λ z. (z, o.1)) (e ∙ sym d)

truth-determined : Determined truth-contract.ended truth-reads.Pre truth-reads.Post
truth-determined κs a p o q e d = ap (λ z. (z, o.1)) (e ∙ sym d)
