-- By the name.
use mathlib.Core.Path.{sym, ap, ◌∙◌}
use mathlib.Core.Bool.{not}
use Rattle.applies.specs.Parts.{keeps_name}
use Rattle.applies.proofs.looks.keeps_order.Goals as goal

pub returns-in-Symbol : goal.returns-in-Symbol
returns-in-Symbol c = ap not c.is_unordered-shuffled.ensures ∙ ap (keeps_name c.args.signature) (sym c.in-Symbol.is)

pub returns-in-Blank : goal.returns-in-Blank
returns-in-Blank c = ap not c.any_unordered-some.ensures ∙ ap (keeps_name c.args.signature) (sym c.in-Blank.is)
