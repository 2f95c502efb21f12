-- By the first name.
use mathlib.Core.Path.{sym, ap, ◌∙◌}
use Rattle.applies.specs.Parts.{same_name}
use Rattle.applies.proofs.looks.same_name.Goals as goal

pub returns-in-Symbol : goal.returns-in-Symbol
returns-in-Symbol c = c.is_named.ensures ∙ ap (λ z. same_name z c.args.b) (sym c.in-Symbol.is)

pub returns-in-Blank : goal.returns-in-Blank
returns-in-Blank c = c.is_blank.ensures ∙ ap (λ z. same_name z c.args.b) (sym c.in-Blank.is)
