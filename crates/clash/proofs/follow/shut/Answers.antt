-- By the test.
use Rattle.clash.proofs.Beginning.{shut_open, shut-word}
use Rattle.clash.proofs.follow.shut.Goals as goal

pub returns-then-null : goal.returns-then-null
returns-then-null c = shut_open c.args.null c.args.x c.if-null.true

pub returns-else-null : goal.returns-else-null
returns-else-null c = shut-word c.args.null c.args.x c.if-null.false
