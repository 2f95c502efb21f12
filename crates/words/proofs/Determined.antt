-- Any two outcomes that a contract of this crate allows coincide.
use mathlib.Core.Path.{sym, ap, ◌∙◌}
use Rattle.language.proofs.Determined.{Determined}
use Rattle.words.specs.contracts.word as word-contract
use Rattle.words.proofs.word.Reads as word-reads
use Rattle.words.specs.contracts.stands as stands-contract
use Rattle.words.proofs.stands.Reads as stands-reads
use Rattle.words.specs.contracts.next_literal as next_literal-contract
use Rattle.words.proofs.next_literal.Reads as next_literal-reads
use Rattle.words.specs.contracts.elsewhere as elsewhere-contract
use Rattle.words.proofs.elsewhere.Reads as elsewhere-reads
use Rattle.words.specs.contracts.same_part as same_part-contract
use Rattle.words.proofs.same_part.Reads as same_part-reads

word-determined : Determined word-contract.ended word-reads.Pre word-reads.Post
word-determined κs a p o q e d = ap (λ z. (z, o.1)) (e ∙ sym d)

stands-determined : Determined stands-contract.ended stands-reads.Pre stands-reads.Post
stands-determined κs a p o q e d = ap (λ z. (z, o.1)) (e ∙ sym d)

next_literal-determined : Determined next_literal-contract.ended next_literal-reads.Pre next_literal-reads.Post
next_literal-determined κs a p o q e d = ap (λ z. (z, o.1)) (e ∙ sym d)

elsewhere-determined : Determined elsewhere-contract.ended elsewhere-reads.Pre elsewhere-reads.Post
elsewhere-determined κs a p o q e d = ap (λ z. (z, o.1)) (e ∙ sym d)

same_part-determined : Determined same_part-contract.ended same_part-reads.Pre same_part-reads.Post
same_part-determined κs a p o q e d = ap (λ z. (z, o.1)) (e ∙ sym d)
