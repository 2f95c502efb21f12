-- Any two outcomes that a contract of this crate allows coincide.
use mathlib.Core.Path.{sym, ap, ◌∙◌}
use Rattle.language.proofs.Determined.{Determined}
use Rattle.orders.specs.contracts.count_orders as count_orders-contract
use Rattle.orders.proofs.count_orders.Reads as count_orders-reads
use Rattle.orders.specs.contracts.order_len as order_len-contract
use Rattle.orders.proofs.order_len.Reads as order_len-reads

count_orders-determined : Determined count_orders-contract.ended count_orders-reads.Pre count_orders-reads.Post
count_orders-determined κs a p o q e d = ap (λ z. (z, o.1)) (e ∙ sym d)

order_len-determined : Determined order_len-contract.ended order_len-reads.Pre order_len-reads.Post
order_len-determined κs a p o q e d = ap (λ z. (z, o.1)) (e ∙ sym d)
