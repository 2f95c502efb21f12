-- Any two outcomes that a contract of this crate allows coincide.
use mathlib.Core.Path.{sym, ap, ◌∙◌}
use Rattle.language.proofs.Determined.{Determined}
use Rattle.expression_words.specs.contracts.write_expression as write_expression-contract
use Rattle.expression_words.proofs.write_expression.Reads as write_expression-reads

write_expression-determined : Determined write_expression-contract.ended write_expression-reads.Pre write_expression-reads.Post
write_expression-determined κs a p o q e d = ap (λ s. (tt, (tt, (tt, (tt, (tt, (s, tt))))))) (e ∙ sym d)
