-- Any two outcomes that a contract of this crate allows coincide.
use mathlib.Core.Path.{sym, ap, ◌∙◌}
use Rattle.language.proofs.Determined.{Determined}
use Rattle.renaming.specs.contracts.write_named as write_named-contract
use Rattle.renaming.proofs.write_named.Reads as write_named-reads

write_named-determined : Determined write_named-contract.ended write_named-reads.Pre write_named-reads.Post
write_named-determined κs a p o q e d = ap (λ z. (z, o.1)) (e.end ∙ sym d.end) ∙ ap (λ s. (q.0, (tt, (tt, (tt, (tt, (tt, (s, (tt, tt))))))))) (e.list ∙ sym d.list)
