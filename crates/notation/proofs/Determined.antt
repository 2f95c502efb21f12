-- Any two outcomes that a contract of this crate allows coincide.
use mathlib.Core.Path.{sym, ap, ◌∙◌}
use Rattle.language.proofs.Determined.{Determined}
use Rattle.notation.specs.contracts.Writer.new as new-contract
use Rattle.notation.proofs.Writer.new.Reads as new-reads

new-of-writer-determined : Determined new-contract.ended new-reads.Pre new-reads.Post
new-of-writer-determined κs a p o q e d = ap (λ z. (z, o.1)) (e ∙ sym d)
