-- `outcomes::outcome_number` meets its contract: of a refusal it is the refusal's own number.
use mathlib.Core.Path.{sym, ap, ◌∙◌}
use Rattle.outcomes.specs.Numbers.{outcome_number}
use Rattle.outcomes.proofs.outcome_number.Goals as goal

pub returns-in-Refused : goal.returns-in-Refused
returns-in-Refused c = c.number.ensures ∙ sym (ap outcome_number c.in-Refused.is)
