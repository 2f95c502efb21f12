-- `text_host::told` meets its contract: by what was given.
use Rattle.text_host.specs.Texts.{given_number}
use mathlib.Core.Path.{sym, ap, ◌∙◌}
use Rattle.text_host.proofs.told.Goals as goal

pub returns-in-Ok : goal.returns-in-Ok
returns-in-Ok c = sym (ap given_number c.in-Ok.is)

pub returns-in-Err : goal.returns-in-Err
returns-in-Err c = c.from.ensures ∙ c.number.ensures ∙ sym (ap given_number c.in-Err.is)
