use Rattle.write_text.proofs.Lining.{lined-empty, lining-starts, lining-on, lining_ends}
use native.Mathlib.Omega.{arith}
use Rattle.write_text.proofs.lines.put_line.Goals as goal

pub returns-then-w-eq0 : goal.returns-then-w-eq0
returns-then-w-eq0 c = lined-empty c.if-w-eq0.true c.put_four.ensures

pub loop-i-smaller : goal.loop-i-smaller
loop-i-smaller c = let m = c.put_literal-l.ensures.after in omega arith

pub loop-i-preserved : goal.loop-i-preserved
loop-i-preserved c = lining-on c.loop-i.invariant _ _ (omega arith) c.first.ensures c.second.ensures c.put_four-m.ensures c.put_literal-l.ensures (omega arith)

pub returns : goal.returns
returns c = lining_ends c.loop-i.invariant (omega arith) c.put.ensures

pub loop-i-init : goal.loop-i-init
loop-i-init c = lining-starts c.if-w-eq0.false
