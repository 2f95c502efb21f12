-- Any two outcomes that a contract of this crate allows coincide.
use mathlib.Core.Path.{sym, ap, ap₂, ◌∙◌}
use Rattle.language.proofs.Determined.{Determined}
use Rattle.filling.specs.contracts.filled_len as filled-len-contract
use Rattle.filling.proofs.filled_len.Reads as filled-len-reads
use Rattle.filling.specs.contracts.fill_in as fill-in-contract
use Rattle.filling.proofs.fill_in.Reads as fill-in-reads

filled_len-determined : Determined filled-len-contract.ended filled-len-reads.Pre filled-len-reads.Post
filled_len-determined κs a p o q e d = ap (λ z. (z, o.1)) (e ∙ sym d)

fill_in-determined : Determined fill-in-contract.ended fill-in-reads.Pre fill-in-reads.Post
fill_in-determined κs a p o q e d = ap₂ (λ z s. (z, (tt, (tt, (tt, (tt, (s, (tt, tt)))))))) (e.place ∙ sym d.place) (e.words ∙ sym d.words)
