-- by the tests.
use borrow.Author.Tests.{eq-eqb, ne_eqb}
use Rattle.write_text.proofs.shapes.is_two.Goals as goal

pub returns-then-x-eq7001 : goal.returns-then-x-eq7001
returns-then-x-eq7001 c = rw (eq-eqb _ _ c.if-x-eq7001.true)

pub returns : goal.returns
returns c = rw (ne_eqb _ _ c.if-x-eq7001.false)
