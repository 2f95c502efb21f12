-- Any two outcomes that a contract of this crate allows coincide: the number that comes back, or the bytes lent.
use Prim.Native.Nat.{ℕ}
use mathlib.Core.Path.{sym, ap, ◌∙◌}
use mathlib.Core.List.{List}
use Rattle.language.proofs.Determined.{Determined}
use Rattle.handing.specs.contracts.most as most-contract
use Rattle.handing.proofs.most.Reads as most-reads
use Rattle.handing.specs.contracts.solved_number as solved-number-contract
use Rattle.handing.proofs.solved_number.Reads as solved-number-reads
use Rattle.handing.specs.contracts.told as told-contract
use Rattle.handing.proofs.told.Reads as told-reads
use Rattle.handing.specs.contracts.put_answer as put-answer-contract
use Rattle.handing.proofs.put_answer.Reads as put-answer-reads
use Rattle.handing.specs.contracts.clear_words as clear-words-contract
use Rattle.handing.proofs.clear_words.Reads as clear-words-reads
use Rattle.handing.specs.contracts.put_trail as put-trail-contract
use Rattle.handing.proofs.put_trail.Reads as put-trail-reads

most-determined : Determined most-contract.ended most-reads.Pre most-reads.Post
most-determined κs a p o q e d = ap (λ n. (n, o.1)) (e.0 ∙ sym d.0)

solved_number-determined : Determined solved-number-contract.ended solved-number-reads.Pre solved-number-reads.Post
solved_number-determined κs a p o q e d = ap (λ n. (n, o.1)) (e ∙ sym d)

told-determined : Determined told-contract.ended told-reads.Pre told-reads.Post
told-determined κs a p o q e d = ap (λ n. (n, o.1)) (e ∙ sym d)

put_answer-determined : Determined put-answer-contract.ended put-answer-reads.Pre put-answer-reads.Post
put_answer-determined κs a p o q e d = ap (λ (bytes : List ℕ). (tt, (tt, (tt, (bytes, tt))))) (e ∙ sym d)

clear_words-determined : Determined clear-words-contract.ended clear-words-reads.Pre clear-words-reads.Post
clear_words-determined κs a p o q e d = ap (λ (bytes : List ℕ). (tt, (bytes, tt))) (e ∙ sym d)

put_trail-determined : Determined put-trail-contract.ended put-trail-reads.Pre put-trail-reads.Post
put_trail-determined κs a p o q e d = ap (λ (bytes : List ℕ). (tt, (tt, (tt, (tt, (bytes, tt)))))) (e ∙ sym d)
