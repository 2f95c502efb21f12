-- by the test.
use borrow.Author.Tests.{lt-ltb, le-ltb}
use Rattle.write_text.proofs.sides.after.Goals as goal

pub returns-then-x-lt3000 : goal.returns-then-x-lt3000
returns-then-x-lt3000 c = rw (lt-ltb _ _ c.if-x-lt3000.true)

pub returns : goal.returns
returns c = rw (le-ltb _ _ c.if-x-lt3000.false)
