-- by the tests.
use borrow.Author.Tests.{le-leb, lt-leb, lt-ltb, le-ltb}
use Rattle.write_text.proofs.numbers.after_word.Goals as goal

pub returns-then-base-x : goal.returns-then-base-x
returns-then-base-x c = rw (le-leb _ _ c.if-x-base.false, le-ltb _ _ c.if-base-x.true)

pub returns : goal.returns
returns c = rw (le-leb _ _ c.if-x-base.false, lt-ltb _ _ c.if-base-x.false) c.after_number.ensures

pub returns-then-x-base : goal.returns-then-x-base
returns-then-x-base c = rw (lt-leb _ _ c.if-x-base.true)
