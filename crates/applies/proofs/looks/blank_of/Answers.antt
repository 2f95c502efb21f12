-- By the name.
use mathlib.Core.Path.{sym, ap}
use Rattle.applies.specs.Parts.{blank_of}
use Rattle.applies.proofs.looks.blank_of.Goals as goal

pub returns-in-Symbol : goal.returns-in-Symbol
returns-in-Symbol c = ap blank_of (sym c.in-Symbol.is)
