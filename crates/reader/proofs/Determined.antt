-- Any two outcomes that a contract of this crate allows coincide.
use mathlib.Core.Path.{sym, ap, ◌∙◌}
use Rattle.language.proofs.Determined.{Determined}
use Rattle.outcomes.proofs.Apart.{checked-apart}
use Rattle.reader.specs.contracts.read_question as read-question-contract
use Rattle.reader.proofs.read_question.Reads as read-question-reads

read_question-determined : Determined read-question-contract.ended read-question-reads.Pre read-question-reads.Post
read_question-determined κs a p o q e d = ap (λ z. (z, o.1)) (checked-apart o.0 q.0 (e ∙ sym d))
