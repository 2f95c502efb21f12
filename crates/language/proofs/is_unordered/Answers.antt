-- `is_unordered`: the symbols from this one to the last are no more than the unordered ones.
use borrow.Author.Tests.{le-ltb, lt-ltb}
use Rattle.language.specs.Trees.{is_unordered}
use Rattle.language.proofs.Header.{from-the-end}
use Rattle.language.proofs.is_unordered.Goals as goal

pub returns-then-f-s : goal.returns-then-f-s
unfolding is_unordered
returns-then-f-s c = rw (lt-ltb _ _ c.if-f-s.true) (from-the-end _ _ _ c.if-f-s.true)

pub returns : goal.returns
unfolding is_unordered
returns c = rw (le-ltb _ _ c.if-f-s.false)
