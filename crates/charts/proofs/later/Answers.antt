-- By the test.
use Rattle.charts.proofs.Levels.{later-star, later-other}
use Rattle.charts.proofs.later.Goals as goal

pub returns-then-x-eq7003 : goal.returns-then-x-eq7003
returns-then-x-eq7003 c = later-star c.args.x c.args.mid c.args.p c.if-x-eq7003.true

pub returns-else-x-eq7003 : goal.returns-else-x-eq7003
returns-else-x-eq7003 c = later-other c.args.x c.args.mid c.args.p c.if-x-eq7003.false
