-- Any two outcomes that a contract of this crate allows coincide.
use mathlib.Core.Path.{sym, ap, ◌∙◌}
use Rattle.language.proofs.Determined.{Determined}
use Rattle.header.specs.contracts.laid_out as laid_out-contract
use Rattle.header.proofs.laid_out.Reads as laid_out-reads
use Rattle.header.specs.contracts.read_header as read-header-contract
use Rattle.header.proofs.read_header.Reads as read-header-reads
use Rattle.header.specs.contracts.signature_of as signature-of-contract
use Rattle.header.proofs.signature_of.Reads as signature-of-reads

laid_out-determined : Determined laid_out-contract.ended laid_out-reads.Pre laid_out-reads.Post
laid_out-determined κs a p o q e d = ap (λ z. (z, o.1)) (e ∙ sym d)

read_header-determined : Determined read-header-contract.ended read-header-reads.Pre read-header-reads.Post
read_header-determined κs a p o q e d = ap (λ z. (z, o.1)) (e ∙ sym d)

signature_of-determined : Determined signature-of-contract.ended signature-of-reads.Pre signature-of-reads.Post
signature_of-determined κs a p o q e d = ap (λ z. (z, o.1)) (e ∙ sym d)
