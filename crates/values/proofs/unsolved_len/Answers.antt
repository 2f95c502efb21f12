-- A variable without an equation has the words of its sample, or those of its default.
use Rattle.values.proofs.Unsolved.{sample-length, default-length}
use Rattle.values.proofs.unsolved_len.Goals as goal

pub returns-in-Some : goal.returns-in-Some
returns-in-Some c = let t = c.expression_of-p.ensures in search (sample-length)

pub returns-in-None : goal.returns-in-None
returns-in-None c = default-length c.expression_of-p.ensures c.in-None.is c.default_len.ensures
