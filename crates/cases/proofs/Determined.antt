-- Any two outcomes that a contract of this crate allows coincide.
use mathlib.Core.Path.{sym, ap, ap₂, ◌∙◌}
use Rattle.language.proofs.Determined.{Determined}
use Rattle.cases.specs.contracts.line_end as line-end-contract
use Rattle.cases.proofs.line_end.Reads as line-end-reads
use Rattle.cases.specs.contracts.words_of as words_of-contract
use Rattle.cases.proofs.words_of.Reads as words_of-reads

line_end-determined : Determined line-end-contract.ended line-end-reads.Pre line-end-reads.Post
line_end-determined κs a p o q e d = ap (λ z. (z, o.1)) (e.place ∙ sym d.place)

words_of-determined : Determined words_of-contract.ended words_of-reads.Pre words_of-reads.Post
words_of-determined κs a p o q e d = ap₂ (λ n s. (n, (tt, (s, tt)))) (e.count ∙ sym d.count) (e.words ∙ sym d.words)
