-- By the look.
use mathlib.Core.Path.{sym, ap}
use Rattle.applies.specs.Parts.{name_in}
use Rattle.applies.proofs.looks.name_in.Goals as goal

pub returns-in-Empty : goal.returns-in-Empty
returns-in-Empty c = ap name_in (sym c.in-Empty.is)

pub returns-in-Term : goal.returns-in-Term
returns-in-Term c = ap name_in (sym c.in-Term.is)

pub returns-in-Run : goal.returns-in-Run
returns-in-Run c = ap name_in (sym c.in-Run.is)
