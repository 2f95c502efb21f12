-- Any two outcomes that a contract of this crate allows coincide.
use mathlib.Core.Path.{sym, ap, ◌∙◌}
use Rattle.language.proofs.Determined.{Determined}
use Rattle.expressions.specs.contracts.pass as pass-contract
use Rattle.expressions.proofs.pass.Reads as pass-reads

pass-determined : Determined pass-contract.ended pass-reads.Pre pass-reads.Post
pass-determined κs a p o q e d = ap (λ z. (z, o.1)) (e.is ∙ sym d.is)
