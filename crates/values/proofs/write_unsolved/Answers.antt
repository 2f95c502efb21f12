-- A variable without an equation takes its sample, or its default.
use Rattle.values.proofs.Unsolved.{sample-laid, default-written}
use Rattle.values.proofs.write_unsolved.Goals as goal

pub returns-in-Some : goal.returns-in-Some
returns-in-Some c = λ d v s w. let t = c.expression_of-p.ensures in let a = c.write_sample-w.ensures in search (sample-laid)

pub returns-in-None : goal.returns-in-None
returns-in-None c = default-written c.expression_of-p.ensures c.in-None.is _ c.write_default.ensures
