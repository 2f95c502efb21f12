-- `same_lone`: both of one kind, and of one number.
use Rattle.clashes.proofs.Alone.{terms-same, runs_same}
use Rattle.clashes.proofs.same_lone.Goals as goal

pub returns-in-Term-b : goal.returns-in-Term-b
returns-in-Term-b c = terms-same c.in-Term.is c.in-Term-b.is

pub returns-in-Run-b-2 : goal.returns-in-Run-b-2
returns-in-Run-b-2 c = runs_same c.in-Run.is c.in-Run-b-2.is
