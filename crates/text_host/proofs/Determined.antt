-- Any two outcomes that a contract of this crate allows coincide.
use mathlib.Core.Path.{sym, ap, ◌∙◌}
use Rattle.language.proofs.Determined.{Determined}
use Rattle.text_host.specs.contracts.desk_write_text as desk-write-text-contract
use Rattle.text_host.proofs.desk_write_text.Reads as desk-write-text-reads
use Rattle.text_host.specs.contracts.desk_read_text as desk-read-text-contract
use Rattle.text_host.proofs.desk_read_text.Reads as desk-read-text-reads

desk_write_text-determined : Determined desk-write-text-contract.ended desk-write-text-reads.Pre desk-write-text-reads.Post
desk_write_text-determined κs a p o q e d = ap (λ z. (z, o.1)) (e.0 ∙ sym d.0) ∙ ap (λ s. (q.0, (tt, (s, tt)))) (e.1 ∙ sym d.1)

desk_read_text-determined : Determined desk-read-text-contract.ended desk-read-text-reads.Pre desk-read-text-reads.Post
desk_read_text-determined κs a p o q e d = ap (λ z. (z, o.1)) (e.0 ∙ sym d.0) ∙ ap (λ s. (q.0, (tt, (s, tt)))) (e.1 ∙ sym d.1)
