-- `write_text::bytes::mark` meets its contract: by the tests.
use borrow.Author.Tests.{lt-ltb, le-ltb}
use Rattle.write_text.proofs.bytes.mark.Goals as goal

pub returns-then-x-lt2000 : goal.returns-then-x-lt2000
returns-then-x-lt2000 c = rw (lt-ltb _ _ c.if-x-lt2000.true)

pub returns-then-x-lt3000 : goal.returns-then-x-lt3000
returns-then-x-lt3000 c = rw (le-ltb _ _ c.if-x-lt2000.false, lt-ltb _ _ c.if-x-lt3000.true)

pub returns-then-x-lt4000 : goal.returns-then-x-lt4000
returns-then-x-lt4000 c = rw (le-ltb _ _ c.if-x-lt2000.false, le-ltb _ _ c.if-x-lt3000.false, lt-ltb _ _ c.if-x-lt4000.true)

pub returns : goal.returns
returns c = rw (le-ltb _ _ c.if-x-lt2000.false, le-ltb _ _ c.if-x-lt3000.false, le-ltb _ _ c.if-x-lt4000.false)
