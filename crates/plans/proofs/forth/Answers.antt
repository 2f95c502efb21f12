-- The test is the definition's.
use borrow.Author.Tests.{lt-ltb, le-ltb}
use Rattle.plans.specs.Slots.{forth_in}
use Rattle.plans.proofs.forth.Goals as goal

pub returns-then-i-k : goal.returns-then-i-k
unfolding forth_in
returns-then-i-k c = rw (lt-ltb _ _ c.if-i-k.true)

pub returns-else-i-k : goal.returns-else-i-k
unfolding forth_in
returns-else-i-k c = rw (le-ltb _ _ c.if-i-k.false)
