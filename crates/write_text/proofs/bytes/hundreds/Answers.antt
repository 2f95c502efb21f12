-- by the test.
use borrow.Author.Tests.{lt-ltb, le-ltb}
use Rattle.write_text.proofs.bytes.hundreds.Goals as goal

pub returns-then-n-lt100 : goal.returns-then-n-lt100
returns-then-n-lt100 c = rw (lt-ltb _ _ c.if-n-lt100.true)

pub returns : goal.returns
returns c = rw (le-ltb _ _ c.if-n-lt100.false)
