use borrow.Enum.Refused.{opened}
use native.Mathlib.Omega.{arith}
use Rattle.filling.proofs.Terms.{closing-starts, closing-done, closing-less, closing-more, closing-stops, closing-past}
use Rattle.filling.proofs.term_end.Goals as goal
use Rattle.filling.proofs.term_end.Goals.{in-End+else-depth-eq1, in-Symbol}

pub loop-i-init : goal.loop-i-init
loop-i-init c = closing-starts c.requires

pub returns-then-depth-eq1 : goal.returns-then-depth-eq1
returns-then-depth-eq1 c = closing-done c.loop-i.invariant (omega arith) _ c.classify.ensures c.in-End.is (omega arith)

pub loop-i-preserved : goal.loop-i-preserved
loop-i-preserved c =
    elim c.match-classify.branch [
      | in-End+else-depth-eq1 w ↦ rw w.depth-is (closing-less c.loop-i.invariant (omega arith) _ c.classify.ensures w.in-End.is (omega arith))
      | in-Symbol w ↦ rw w.depth-is (closing-more c.loop-i.invariant (omega arith) _ c.classify.ensures w.in-Symbol.is)
    ]

pub returns-in_default : goal.returns-in_default
returns-in_default c = closing-stops c.loop-i.invariant (omega arith) _ c.classify.ensures (opened c.in_default.in_default-own.keys3)

pub returns : goal.returns
returns c = closing-past c.loop-i.invariant (omega arith)
