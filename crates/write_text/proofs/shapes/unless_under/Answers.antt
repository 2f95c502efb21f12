-- by the test.
use borrow.Author.Tests.{eq-eqb, ne_eqb}
use Rattle.write_text.proofs.shapes.unless_under.Goals as goal

pub returns-then-t-eq3 : goal.returns-then-t-eq3
returns-then-t-eq3 c = rw (eq-eqb _ _ c.if-t-eq3.true)

pub returns : goal.returns
returns c = rw (ne_eqb _ _ c.if-t-eq3.false)
