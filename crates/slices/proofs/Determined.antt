-- Any two outcomes that a contract of this crate allows coincide.
use mathlib.Core.Path.{sym, ap, ◌∙◌}
use Rattle.language.proofs.Determined.{Determined}
use Rattle.slices.proofs.Parts.{within-length}
use Rattle.slices.specs.contracts.within as within-contract
use Rattle.slices.proofs.within.Reads as within-reads
use Rattle.slices.specs.contracts.part_len as part_len-contract
use Rattle.slices.proofs.part_len.Reads as part_len-reads
use Rattle.slices.specs.contracts.copy as copy-contract
use Rattle.slices.proofs.copy.Reads as copy-reads
use Rattle.slices.specs.contracts.store as store-contract
use Rattle.slices.proofs.store.Reads as store-reads
use Rattle.slices.specs.contracts.clear as clear-contract
use Rattle.slices.proofs.clear.Reads as clear-reads

within-determined : Determined within-contract.ended within-reads.Pre within-reads.Post
within-determined κs a p o q e d = ap (λ z. (z, o.1)) (within-length e ∙ sym (within-length d))

part_len-determined : Determined part_len-contract.ended part_len-reads.Pre part_len-reads.Post
part_len-determined κs a p o q e d = ap (λ z. (z, o.1)) (e ∙ sym d)

copy-determined : Determined copy-contract.ended copy-reads.Pre copy-reads.Post
copy-determined κs a p o q e d = ap (λ z. (z, o.1)) (e.end ∙ sym d.end) ∙ ap (λ s. (q.0, (tt, (tt, (tt, (s, (tt, tt))))))) (e.list ∙ sym d.list)

store-determined : Determined store-contract.ended store-reads.Pre store-reads.Post
store-determined κs a p o q e d = ap (λ s. (tt, (s, (tt, (tt, tt))))) (e ∙ sym d)

clear-determined : Determined clear-contract.ended clear-reads.Pre clear-reads.Post
clear-determined κs a p o q e d = ap (λ s. (tt, (s, tt))) (e ∙ sym d)
