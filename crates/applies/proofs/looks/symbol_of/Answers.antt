-- By the name.
use mathlib.Core.Path.{sym, ap}
use Rattle.applies.specs.Parts.{symbol_of}
use Rattle.applies.proofs.looks.symbol_of.Goals as goal

pub returns-in-Blank : goal.returns-in-Blank
returns-in-Blank c = ap symbol_of (sym c.in-Blank.is)
