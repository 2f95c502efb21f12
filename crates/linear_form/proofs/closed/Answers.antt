use Rattle.linear_form.proofs.Joining.{closes-open, closes-shut}
use Rattle.linear_form.proofs.closed.Goals as goal

pub returns-then-null : goal.returns-then-null
returns-then-null c = closes-open c.args.x c.args.null c.if-null.true

pub returns-else-null : goal.returns-else-null
returns-else-null c = closes-shut c.args.x c.args.null c.if-null.false
