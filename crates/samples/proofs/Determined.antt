-- Any two outcomes that a contract of this crate allows coincide.
use mathlib.Core.Path.{sym, ap, ◌∙◌}
use Rattle.language.proofs.Determined.{Determined}
use Rattle.samples.specs.contracts.put as put-contract
use Rattle.samples.proofs.put.Reads as put-reads
use Rattle.samples.specs.contracts.measure as measure-contract
use Rattle.samples.proofs.measure.Reads as measure-reads
use Rattle.samples.specs.contracts.write_sample as write_sample-contract
use Rattle.samples.proofs.write_sample.Reads as write_sample-reads

put-determined : Determined put-contract.ended put-reads.Pre put-reads.Post
put-determined κs a p o q e d = ap (λ z. (z, o.1)) (e.end ∙ sym d.end) ∙ ap (λ s. (q.0, (s, (tt, (tt, tt))))) (e.list ∙ sym d.list)

measure-determined : Determined measure-contract.ended measure-reads.Pre measure-reads.Post
measure-determined κs a p o q e d =
    ap (λ z. (record { end = z; words = o.0.words }, o.1)) (e.end ∙ sym d.end) ∙ ap (λ z. (record { end = q.0.end; words = z }, o.1)) (e.words ∙ sym d.words)

write_sample-determined : Determined write_sample-contract.ended write_sample-reads.Pre write_sample-reads.Post
write_sample-determined κs a p o q e d =
    ap (λ z. (record { end = z; to = o.0.to }, o.1)) (e.end ∙ sym d.end) ∙ ap (λ z. (record { end = q.0.end; to = z }, o.1)) (e.laid.end ∙ sym d.laid.end)
    ∙ ap (λ s. (q.0, (tt, (tt, (s, (tt, tt)))))) (e.laid.list ∙ sym d.laid.list)
