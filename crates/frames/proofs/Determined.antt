-- Any two outcomes that a contract of this crate allows coincide.
use mathlib.Core.Path.{sym, ap, ◌∙◌}
use Rattle.language.proofs.Determined.{Determined}
use Rattle.frames.specs.contracts.write_frame as write_frame-contract
use Rattle.frames.proofs.write_frame.Reads as write_frame-reads
use Rattle.frames.specs.contracts.read_frame as read_frame-contract
use Rattle.frames.proofs.read_frame.Reads as read_frame-reads
use Rattle.frames.specs.contracts.read_number as read_number-contract
use Rattle.frames.proofs.read_number.Reads as read_number-reads

write_frame-determined : Determined write_frame-contract.ended write_frame-reads.Pre write_frame-reads.Post
write_frame-determined κs a p o q e d = ap (λ s. (tt, (s, (tt, (tt, (tt, tt)))))) (e ∙ sym d)

read_frame-determined : Determined read_frame-contract.ended read_frame-reads.Pre read_frame-reads.Post
read_frame-determined κs a p o q e d = ap (λ z. (z, o.1)) (e ∙ sym d)

read-number-determined : Determined read_number-contract.ended read_number-reads.Pre read_number-reads.Post
read-number-determined κs a p o q e d = ap (λ z. (z, o.1)) (e ∙ sym d)
