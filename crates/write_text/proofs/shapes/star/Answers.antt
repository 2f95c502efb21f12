-- by the test.
use borrow.Author.Tests.{eq-eqb, ne_eqb}
use Rattle.write_text.proofs.shapes.star.Goals as goal

pub returns-then-x-eq7003 : goal.returns-then-x-eq7003
returns-then-x-eq7003 c = rw (eq-eqb _ _ c.if-x-eq7003.true)

pub returns : goal.returns
returns c = rw (ne_eqb _ _ c.if-x-eq7003.false)
