-- Any two outcomes that a contract of this crate allows coincide.
use mathlib.Core.Path.{sym, ap, ◌∙◌}
use Rattle.language.proofs.Determined.{Determined}
use Rattle.text_survey.specs.contracts.line as line-contract
use Rattle.text_survey.proofs.line.Reads as line-reads
use Rattle.text_survey.specs.contracts.survey as survey-contract
use Rattle.text_survey.proofs.survey.Reads as survey-reads

line-determined : Determined line-contract.ended line-reads.Pre line-reads.Post
line-determined κs a p o q e d = ap (λ z. (z, o.1)) (e.tells ∙ sym d.tells)

survey-determined : Determined survey-contract.ended survey-reads.Pre survey-reads.Post
survey-determined κs a p o q e d = ap (λ z. (z, o.1)) (e.tells ∙ sym d.tells)
