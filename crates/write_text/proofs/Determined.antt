-- Any two outcomes that the contract of `write_text` allows coincide.
use mathlib.Core.Path.{sym, ap, ◌∙◌}
use Rattle.language.proofs.Determined.{Determined}
use Rattle.write_text.specs.contracts.write_text as write-text-contract
use Rattle.write_text.proofs.write_text.Reads as write-text-reads

write_text-determined : Determined write-text-contract.ended write-text-reads.Pre write-text-reads.Post
write_text-determined κs a p o q e d = ap (λ z. (z, o.1)) (e.0 ∙ sym d.0) ∙ ap (λ s. (q.0, (tt, (s, tt)))) (e.1 ∙ sym d.1)
