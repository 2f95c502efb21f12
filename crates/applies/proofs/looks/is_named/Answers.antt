-- By the name.
use mathlib.Core.Path.{sym, ap}
use Rattle.applies.specs.Parts.{is_named}
use Rattle.applies.proofs.looks.is_named.Goals as goal

pub returns-in-Symbol : goal.returns-in-Symbol
returns-in-Symbol c = ap (is_named c.args.f) (sym c.in-Symbol.is)
