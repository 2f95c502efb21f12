-- By the look.
use mathlib.Core.Path.{sym, ap}
use Rattle.applies.specs.Parts.{variable_of}
use Rattle.applies.proofs.looks.variable_of.Goals as goal

pub returns-in-Empty : goal.returns-in-Empty
returns-in-Empty c = ap variable_of (sym c.in-Empty.is)

pub returns-in-Run : goal.returns-in-Run
returns-in-Run c = ap variable_of (sym c.in-Run.is)

pub returns-in-Node : goal.returns-in-Node
returns-in-Node c = ap variable_of (sym c.in-Node.is)
