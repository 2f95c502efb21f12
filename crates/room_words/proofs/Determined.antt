-- Any two outcomes that a contract of this crate allows coincide.
use mathlib.Core.Path.{sym, ap, ◌∙◌}
use Rattle.language.proofs.Determined.{Determined}
use Rattle.room_words.specs.contracts.put_if as put_if-contract
use Rattle.room_words.proofs.put_if.Reads as put_if-reads
use Rattle.room_words.specs.contracts.put_head as put_head-contract
use Rattle.room_words.proofs.put_head.Reads as put_head-reads

put-if-determined : Determined put_if-contract.ended put_if-reads.Pre put_if-reads.Post
put-if-determined κs a p o q e d = ap (λ z. (z, o.1)) (e.place ∙ sym d.place) ∙ ap (λ s. (q.0, (s, (tt, (tt, (tt, tt)))))) (e.words ∙ sym d.words)

put_head-determined : Determined put_head-contract.ended put_head-reads.Pre put_head-reads.Post
put_head-determined κs a p o q e d = ap (λ s. (tt, (s, (tt, (tt, tt))))) (e ∙ sym d)
