-- by the tests.
use borrow.Author.Tests.{eq-eqb, ne_eqb, lt-ltb, le-ltb}
use Rattle.write_text.proofs.shapes.first_place.Goals as goal

pub returns-then-x-eq7001 : goal.returns-then-x-eq7001
returns-then-x-eq7001 c = rw (le-ltb _ _ c.if-x-lt7000.false, eq-eqb _ _ c.if-x-eq7001.true)

pub returns : goal.returns
returns c = rw (le-ltb _ _ c.if-x-lt7000.false, ne_eqb _ _ c.if-x-eq7001.false)

pub returns-then-x-lt7000 : goal.returns-then-x-lt7000
returns-then-x-lt7000 c = rw (lt-ltb _ _ c.if-x-lt7000.true)
