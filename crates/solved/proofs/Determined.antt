-- Any two outcomes that a contract of this crate allows coincide.
use mathlib.Core.Path.{sym, ap, ◌∙◌}
use Rattle.language.proofs.Determined.{Determined}
use Rattle.solved.specs.contracts.is_solved as is_solved-contract
use Rattle.solved.proofs.is_solved.Reads as is_solved-reads

is_solved-determined : Determined is_solved-contract.ended is_solved-reads.Pre is_solved-reads.Post
is_solved-determined κs a p o q e d = ap (λ z. (z, o.1)) (let x = p.1.0 in e x.conj x.fine x.words ∙ sym (d x.conj x.fine x.words))
