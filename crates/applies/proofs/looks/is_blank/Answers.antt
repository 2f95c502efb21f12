-- By the name.
use mathlib.Core.Path.{sym, ap}
use Rattle.applies.specs.Parts.{is_blank}
use Rattle.applies.proofs.looks.is_blank.Goals as goal

pub returns-in-Blank : goal.returns-in-Blank
returns-in-Blank c = ap (is_blank c.args.x) (sym c.in-Blank.is)
