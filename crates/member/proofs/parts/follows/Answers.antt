-- `member::follows` meets its contract: of a concatenation by both.
use Rattle.member.proofs.Moves.{follows-cat, follows-other}
use Rattle.member.proofs.parts.follows.Goals as goal

pub returns-then-x-eq7001 : goal.returns-then-x-eq7001
returns-then-x-eq7001 c = follows-cat c.if-x-eq7001.true c.and.ensures c.or.ensures

pub returns : goal.returns
returns c = follows-other c.if-x-eq7001.false
