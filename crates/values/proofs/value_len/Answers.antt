-- A variable's value has the words of the part that it is bound to, filled in, or those that it takes unsolved and a 0.
use native.Mathlib.Omega.{arith}
use Rattle.values.proofs.Following.{bound-length, free-length}
use Rattle.values.proofs.value_len.Goals as goal

pub overflow_add-result : goal.overflow_add-result
overflow_add-result c = omega arith

pub returns-in-Some : goal.returns-in-Some
returns-in-Some c = let t = c.bound_to-b.ensures in search (bound-length)

pub returns-in-None : goal.returns-in-None
returns-in-None c = free-length c.bound_to-b.ensures c.in-None.is c.requires.0 c.unsolved_len.ensures
