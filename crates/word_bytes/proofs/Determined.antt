-- Any two outcomes that a contract of this crate allows coincide: how many words are taken, and the words or bytes lent.
use Prim.Native.Nat.{ℕ}
use mathlib.Core.Path.{sym, ap, ◌∙◌}
use mathlib.Core.List.{List}
use lib.ListN.{length}
use Rattle.language.proofs.Determined.{Determined}
use Rattle.word_bytes.specs.contracts.take_words as take_words-contract
use Rattle.word_bytes.proofs.take_words.Reads as take_words-reads
use Rattle.word_bytes.specs.contracts.write_words as write-words-contract
use Rattle.word_bytes.proofs.write_words.Reads as write-words-reads
use Rattle.word_bytes.specs.contracts.write_words_at as write-words-at-contract
use Rattle.word_bytes.proofs.write_words_at.Reads as write-words-at-reads
use Rattle.word_bytes.specs.contracts.word_at as word_at-contract
use Rattle.word_bytes.proofs.word_at.Reads as word_at-reads

take_words-determined : Determined take_words-contract.ended take_words-reads.Pre take_words-reads.Post
take_words-determined κs a p o q e d =
    ap (λ n. (n, o.1)) (e.0.1 ∙ ap length (e.1.0 ∙ sym d.1.0) ∙ sym d.0.1) ∙ ap (λ (ws : List ℕ). (q.0, (tt, (ws, tt)))) (e.1.1 ∙ sym d.1.1)

write_words-determined : Determined write-words-contract.ended write-words-reads.Pre write-words-reads.Post
write_words-determined κs a p o q e d = ap (λ (bytes : List ℕ). (tt, (tt, (bytes, tt)))) (e ∙ sym d)

write_words_at-determined : Determined write-words-at-contract.ended write-words-at-reads.Pre write-words-at-reads.Post
write_words_at-determined κs a p o q e d = ap (λ (bytes : List ℕ). (tt, (tt, (bytes, (tt, tt))))) (e ∙ sym d)

word_at-determined : Determined word_at-contract.ended word_at-reads.Pre word_at-reads.Post
word_at-determined κs a p o q e d = ap (λ n. (n, o.1)) (e ∙ sym d)
