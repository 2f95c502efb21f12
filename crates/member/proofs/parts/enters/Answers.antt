-- `member::enters` meets its contract: of a star by either.
use Rattle.member.proofs.Moves.{enters-star, enters-other}
use Rattle.member.proofs.parts.enters.Goals as goal

pub returns-then-x-eq7003 : goal.returns-then-x-eq7003
returns-then-x-eq7003 c = enters-star c.if-x-eq7003.true c.or.ensures

pub returns : goal.returns
returns c = enters-other c.if-x-eq7003.false
