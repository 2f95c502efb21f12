-- The test is the definition's.
use borrow.Author.Tests.{eq-eqb, ne_eqb}
use Rattle.renaming.proofs.rename_word.Goals as goal

pub returns-then-old-x : goal.returns-then-old-x
returns-then-old-x c = rw (eq-eqb _ _ c.if-old-x.true)

pub returns-else-old-x : goal.returns-else-old-x
returns-else-old-x c = rw (ne_eqb _ _ c.if-old-x.false)
