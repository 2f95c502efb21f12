-- Any two outcomes that a contract of this crate allows coincide.
use mathlib.Core.Path.{sym, ap, ◌∙◌}
use Rattle.language.proofs.Determined.{Determined}
use Rattle.read_text.specs.contracts.read_text as read_text-contract
use Rattle.read_text.proofs.read_text.Reads as read_text-reads

read_text-determined : Determined read_text-contract.ended read_text-reads.Pre read_text-reads.Post
read_text-determined κs a p o q e d = ap (λ z. (z, o.1)) (e.0 ∙ sym d.0) ∙ ap (λ s. (q.0, (tt, (s, tt)))) (e.1 ∙ sym d.1)
