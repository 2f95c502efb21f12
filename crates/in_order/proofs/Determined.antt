-- Any two outcomes that a contract of this crate allows coincide.
use mathlib.Core.Path.{sym, ap, ◌∙◌}
use Rattle.language.proofs.Determined.{Determined}
use Rattle.in_order.specs.contracts.write_order as write_order-contract
use Rattle.in_order.proofs.write_order.Reads as write_order-reads

write_order-determined : Determined write_order-contract.ended write_order-reads.Pre write_order-reads.Post
write_order-determined κs a p o q e d = ap (λ z. (z, o.1)) (e.end ∙ sym d.end) ∙ ap (λ s. (q.0, (tt, (tt, (tt, (tt, (s, (tt, tt)))))))) (e.list ∙ sym d.list)
