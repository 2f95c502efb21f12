-- Any two outcomes that a contract of this crate allows coincide.
use mathlib.Core.Path.{sym, ap, ◌∙◌}
use Rattle.language.proofs.Determined.{Determined}
use Rattle.outcomes.specs.contracts.verdict_number as verdict-number-contract
use Rattle.outcomes.proofs.verdict_number.Reads as verdict-number-reads
use Rattle.outcomes.specs.contracts.outcome_number as outcome-number-contract
use Rattle.outcomes.proofs.outcome_number.Reads as outcome-number-reads
use Rattle.outcomes.specs.contracts.tried_number as tried-number-contract
use Rattle.outcomes.proofs.tried_number.Reads as tried-number-reads
use Rattle.outcomes.specs.contracts.tried_value as tried-value-contract
use Rattle.outcomes.proofs.tried_value.Reads as tried-value-reads
use Rattle.outcomes.specs.contracts.shown_number as shown-number-contract
use Rattle.outcomes.proofs.shown_number.Reads as shown-number-reads
use Rattle.outcomes.specs.contracts.shown_length as shown-length-contract
use Rattle.outcomes.proofs.shown_length.Reads as shown-length-reads

verdict_number-determined : Determined verdict-number-contract.ended verdict-number-reads.Pre verdict-number-reads.Post
verdict_number-determined κs a p o q e d = ap (λ z. (z, o.1)) (e ∙ sym d)

outcome_number-determined : Determined outcome-number-contract.ended outcome-number-reads.Pre outcome-number-reads.Post
outcome_number-determined κs a p o q e d = ap (λ z. (z, o.1)) (e ∙ sym d)

tried_number-determined : Determined tried-number-contract.ended tried-number-reads.Pre tried-number-reads.Post
tried_number-determined κs a p o q e d = ap (λ z. (z, o.1)) (e ∙ sym d)

tried_value-determined : Determined tried-value-contract.ended tried-value-reads.Pre tried-value-reads.Post
tried_value-determined κs a p o q e d = ap (λ z. (z, o.1)) (e ∙ sym d)

shown_number-determined : Determined shown-number-contract.ended shown-number-reads.Pre shown-number-reads.Post
shown_number-determined κs a p o q e d = ap (λ z. (z, o.1)) (e ∙ sym d)

shown_length-determined : Determined shown-length-contract.ended shown-length-reads.Pre shown-length-reads.Post
shown_length-determined κs a p o q e d = ap (λ z. (z, o.1)) (e ∙ sym d)
