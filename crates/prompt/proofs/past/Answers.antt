-- `prompt::past` meets its contract: the end of the line, and any other byte.
use native.Mathlib.Omega.{arith}
use Rattle.prompt.proofs.Bytes.{line-ends, line-goes-on}
use Rattle.prompt.proofs.past.Goals as goal

pub overflow_add-result : goal.overflow_add-result
overflow_add-result c = omega arith

pub returns-then-b-eq10 : goal.returns-then-b-eq10
returns-then-b-eq10 c = line-ends _ _ _ c.if-b-eq10.true

pub overflow_add-result-2 : goal.overflow_add-result-2
overflow_add-result-2 c = omega arith

pub returns : goal.returns
returns c = line-goes-on _ _ _ c.if-b-eq10.false
