-- Any two outcomes that a contract of this crate allows coincide.
use mathlib.Core.Path.{sym, ap, ◌∙◌}
use Rattle.language.proofs.Determined.{Determined}
use Rattle.text_names.proofs.Letters.{one-letter}
use Rattle.text_names.specs.contracts.letter_at as letter_at-contract
use Rattle.text_names.proofs.letter_at.Reads as letter_at-reads
use Rattle.text_names.specs.contracts.enter as enter-contract
use Rattle.text_names.proofs.enter.Reads as enter-reads
use Rattle.text_names.specs.contracts.own_word as own_word-contract
use Rattle.text_names.proofs.own_word.Reads as own_word-reads

letter-at-determined : Determined letter_at-contract.ended letter_at-reads.Pre letter_at-reads.Post
letter-at-determined κs a p o q e d = ap (λ z. (z, o.1)) (one-letter e d)

enter-determined : Determined enter-contract.ended enter-reads.Pre enter-reads.Post
enter-determined κs a p o q e d = ap (λ s. (tt, (tt, (s, (tt, (tt, tt)))))) (e ∙ sym d)

own_word-determined : Determined own_word-contract.ended own_word-reads.Pre own_word-reads.Post
own_word-determined κs a p o q e d = ap (λ z. (z, o.1)) (e ∙ sym d)
