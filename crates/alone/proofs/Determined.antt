-- Any two outcomes that a contract of this crate allows coincide.
use mathlib.Core.Path.{sym, ap, ◌∙◌}
use Rattle.language.proofs.Determined.{Determined}
use Rattle.alone.specs.contracts.side_variable as side_variable-contract
use Rattle.alone.proofs.side_variable.Reads as side_variable-reads
use Rattle.alone.specs.contracts.lone_word as lone_word-contract
use Rattle.alone.proofs.lone_word.Reads as lone_word-reads
use Rattle.alone.specs.contracts.alone_side as alone_side-contract
use Rattle.alone.proofs.alone_side.Reads as alone_side-reads

side_variable-determined : Determined side_variable-contract.ended side_variable-reads.Pre side_variable-reads.Post
side_variable-determined κs a p o q e d = ap (λ z. (z, o.1)) (e ∙ sym d)

lone_word-determined : Determined lone_word-contract.ended lone_word-reads.Pre lone_word-reads.Post
lone_word-determined κs a p o q e d = ap (λ z. (z, o.1)) (e ∙ sym d)

alone_side-determined : Determined alone_side-contract.ended alone_side-reads.Pre alone_side-reads.Post
alone_side-determined κs a p o q e d = ap (λ z. (z, o.1)) (e ∙ sym d)
