-- Any two outcomes that a contract of this crate allows coincide.
use mathlib.Core.Path.{sym, ap, ◌∙◌}
use Rattle.language.proofs.Determined.{Determined}
use Rattle.lexing.specs.contracts.is_name_byte as is_name_byte-contract
use Rattle.lexing.proofs.is_name_byte.Reads as is_name_byte-reads
use Rattle.lexing.specs.contracts.mark_of as mark_of-contract
use Rattle.lexing.proofs.mark_of.Reads as mark_of-reads
use Rattle.lexing.specs.contracts.sort as sort-contract
use Rattle.lexing.proofs.sort.Reads as sort-reads
use Rattle.lexing.specs.contracts.next as next-contract
use Rattle.lexing.proofs.next.Reads as next-reads

is_name_byte-determined : Determined is_name_byte-contract.ended is_name_byte-reads.Pre is_name_byte-reads.Post
is_name_byte-determined κs a p o q e d = ap (λ z. (z, o.1)) (e ∙ sym d)

mark-of-determined : Determined mark_of-contract.ended mark_of-reads.Pre mark_of-reads.Post
mark-of-determined κs a p o q e d = ap (λ z. (z, o.1)) (e ∙ sym d)

sort-determined : Determined sort-contract.ended sort-reads.Pre sort-reads.Post
sort-determined κs a p o q e d = ap (λ z. (z, o.1)) (e ∙ sym d)

next-determined : Determined next-contract.ended next-reads.Pre next-reads.Post
next-determined κs a p o q e d = ap (λ z. (z, o.1)) (e ∙ sym d)
