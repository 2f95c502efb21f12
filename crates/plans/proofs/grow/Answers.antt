-- By the test of the definition.
use borrow.Author.Tests.{le-leb, lt-leb}
use Rattle.language.specs.Limits.{desk}
use Rattle.plans.proofs.grow.Goals as goal

pub returns-then-n-le-ROOM : goal.returns-then-n-le-ROOM
returns-then-n-le-ROOM c = simp (le-leb _ desk.room c.if-n-le-ROOM.true)

pub returns-else-n-le-ROOM : goal.returns-else-n-le-ROOM
returns-else-n-le-ROOM c = simp (lt-leb _ desk.room c.if-n-le-ROOM.false)
