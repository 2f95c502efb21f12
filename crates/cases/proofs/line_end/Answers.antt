use native.Mathlib.Omega.{arith}
use Rattle.cases.proofs.Laws.{starts, passes, ends-here, ends-as}
use Rattle.cases.proofs.line_end.Goals as goal

pub loop-i-init : goal.loop-i-init
loop-i-init c = starts _ _

pub returns-then-text-i-eq10 : goal.returns-then-text-i-eq10
returns-then-text-i-eq10 c = ends-here _ _ c.loop-i.invariant (omega arith) c.if-text-i-eq10.true

pub loop-i-preserved : goal.loop-i-preserved
loop-i-preserved c = passes _ _ c.loop-i.invariant (omega arith) c.if-text-i-eq10.false

pub returns : goal.returns
returns c = ends-as _ _ c.loop-i.invariant (omega arith) (omega arith)
