-- Any two outcomes that a contract of this crate allows coincide.
use mathlib.Core.Path.{sym, ap, ◌∙◌}
use Rattle.language.proofs.Determined.{Determined}
use Rattle.counts.specs.contracts.count_in as count-in-contract
use Rattle.counts.proofs.count_in.Reads as count-in-reads
use Rattle.counts.specs.contracts.count_out as count_out-contract
use Rattle.counts.proofs.count_out.Reads as count_out-reads
use Rattle.counts.specs.contracts.repeated as repeated-contract
use Rattle.counts.proofs.repeated.Reads as repeated-reads
use Rattle.counts.specs.contracts.once as once-contract
use Rattle.counts.proofs.once.Reads as once-reads

count_in-determined : Determined count-in-contract.ended count-in-reads.Pre count-in-reads.Post
count_in-determined κs a p o q e d = ap (λ s. (tt, (tt, (tt, (tt, (s, tt)))))) (e ∙ sym d)

count_out-determined : Determined count_out-contract.ended count_out-reads.Pre count_out-reads.Post
count_out-determined κs a p o q e d = ap (λ s. (tt, (tt, (tt, (tt, (s, tt)))))) (e ∙ sym d)

repeated-determined : Determined repeated-contract.ended repeated-reads.Pre repeated-reads.Post
repeated-determined κs a p o q e d = ap (λ z. (z, o.1)) (e ∙ sym d)

once-determined : Determined once-contract.ended once-reads.Pre once-reads.Post
once-determined κs a p o q e d = ap (λ z. (z, o.1)) (e ∙ sym d)
