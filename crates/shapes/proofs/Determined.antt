-- Any two outcomes that a contract of this crate allows coincide.
use mathlib.Core.Path.{sym, ap, ◌∙◌}
use Rattle.language.proofs.Determined.{Determined}
use Rattle.shapes.specs.contracts.shape as shape-contract
use Rattle.shapes.proofs.shape.Reads as shape-reads

shape-determined : Determined shape-contract.ended shape-reads.Pre shape-reads.Post
shape-determined κs a p o q e d = ap (λ z. (z, o.1)) (e.tells ∙ sym d.tells)
