-- A side, the sign, and a side or an expression.
use Rattle.write_text.proofs.Lining.{tested-equation, tested-membership}
use Rattle.write_text.proofs.lines.put_literal.Goals as goal

pub returns-then-w-at-eq5000 : goal.returns-then-w-at-eq5000
returns-then-w-at-eq5000 c = tested-equation c.put_side-a.ensures c.if-w-at-eq5000.true c.put_four-m.ensures c.put_side.ensures

pub returns : goal.returns
returns c = tested-membership c.put_side-a.ensures c.if-w-at-eq5000.false c.put_four-m-2.ensures c.put_shape.ensures
