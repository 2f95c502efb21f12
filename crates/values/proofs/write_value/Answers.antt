-- A variable's value is the part that it is bound to, filled in, or what it takes unsolved and a 0.
use Rattle.values.proofs.Following.{bound-laid, free-laid}
use Rattle.values.proofs.write_value.Goals as goal

pub returns-in-Some : goal.returns-in-Some
returns-in-Some c = λ d v s q w. let t = c.bound_to-b.ensures in let f = c.write_part.ensures in search (bound-laid)

pub returns-in-None : goal.returns-in-None
returns-in-None c = free-laid c.bound_to-b.ensures _ c.in-None.is c.write_unsolved-e.ensures c.put.ensures
