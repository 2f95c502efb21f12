-- By the look.
use mathlib.Core.Path.{sym, ap}
use Rattle.applies.specs.Parts.{run_of}
use Rattle.applies.proofs.looks.run_of.Goals as goal

pub returns-in-Empty : goal.returns-in-Empty
returns-in-Empty c = ap run_of (sym c.in-Empty.is)

pub returns-in-Term : goal.returns-in-Term
returns-in-Term c = ap run_of (sym c.in-Term.is)

pub returns-in-Node : goal.returns-in-Node
returns-in-Node c = ap run_of (sym c.in-Node.is)
