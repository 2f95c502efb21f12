-- by the tests.
use borrow.Author.Tests.{eq-eqb, ne_eqb, lt-ltb, le-ltb}
use Rattle.write_text.proofs.numbers.after_number.Goals as goal

pub returns-then-m-n-2 : goal.returns-then-m-n-2
returns-then-m-n-2 c = rw (le-ltb _ _ c.if-m-n.false, eq-eqb _ _ c.if-m-n-2.true)

pub returns : goal.returns
returns c = rw (le-ltb _ _ c.if-m-n.false, ne_eqb _ _ c.if-m-n-2.false)

pub returns-then-m-n : goal.returns-then-m-n
returns-then-m-n c = rw (lt-ltb _ _ c.if-m-n.true)
