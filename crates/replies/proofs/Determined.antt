-- Any two outcomes that a contract of this crate allows coincide.
use mathlib.Core.Path.{sym, ap, ◌∙◌}
use Rattle.language.proofs.Determined.{Determined}
use Rattle.replies.specs.contracts.refuse as refuse-contract
use Rattle.replies.proofs.refuse.Reads as refuse-reads
use Rattle.replies.specs.contracts.no_question as no_question-contract
use Rattle.replies.proofs.no_question.Reads as no_question-reads
use Rattle.replies.specs.contracts.solved as solved-contract
use Rattle.replies.proofs.solved.Reads as solved-reads

refuse-determined : Determined refuse-contract.ended refuse-reads.Pre refuse-reads.Post
refuse-determined κs a p o q e d = ap (λ z. (z, o.1)) (e ∙ sym d)

no_question-determined : Determined no_question-contract.ended no_question-reads.Pre no_question-reads.Post
no_question-determined κs a p o q e d = ap (λ z. (z, o.1)) (e ∙ sym d)

solved-determined : Determined solved-contract.ended solved-reads.Pre solved-reads.Post
solved-determined κs a p o q e d = ap (λ z. (z, o.1)) (e ∙ sym d)
