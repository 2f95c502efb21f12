-- `outcomes::verdict_number` meets its contract: of a refusal it is the refusal's own number.
use mathlib.Core.Path.{sym, ap, ◌∙◌}
use Rattle.outcomes.specs.Numbers.{checked_number}
use Rattle.outcomes.proofs.verdict_number.Goals as goal

pub returns-in-Err : goal.returns-in-Err
returns-in-Err c = c.number.ensures ∙ sym (ap checked_number c.in-Err.is)
