-- Any two outcomes that a contract of this crate allows coincide.
use mathlib.Core.Path.{sym, ap, ◌∙◌}
use Rattle.language.proofs.Determined.{Determined}
use Rattle.text_words.specs.Bodies.{Left}
use Rattle.text_words.specs.contracts.write_lines as write_lines-contract
use Rattle.text_words.proofs.write_lines.Reads as write_lines-reads

write_lines-determined : Determined write_lines-contract.ended write_lines-reads.Pre write_lines-reads.Post
write_lines-determined κs a p o q e d = ap (λ (l : Left). (l.0, (tt, (tt, (l.1, (tt, tt)))))) (e.tells ∙ sym d.tells)
