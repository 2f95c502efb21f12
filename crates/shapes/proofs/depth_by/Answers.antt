-- `shapes::depth_by` meets its contract: by the first digit.
use native.Mathlib.Omega.{arith}
use Rattle.shapes.proofs.Actions.{deeper, shallower, as-deep}
use Rattle.shapes.proofs.depth_by.Goals as goal

pub returns-then-kind-eq1 : goal.returns-then-kind-eq1
returns-then-kind-eq1 c = deeper _ _ c.if-kind-eq1.true

pub overflow_sub-result : goal.overflow_sub-result
overflow_sub-result c = let k = c.if-kind-eq3.true in let p = c.requires.1 (omega arith) in omega arith

pub returns-then-kind-eq3 : goal.returns-then-kind-eq3
returns-then-kind-eq3 c = shallower _ _ c.if-kind-eq1.false c.if-kind-eq3.true

pub returns : goal.returns
returns c = as-deep _ _ c.if-kind-eq1.false c.if-kind-eq3.false
