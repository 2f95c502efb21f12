-- By the state's number.
use mathlib.Core.Path.{refl}
use Rattle.clash.proofs.Following.{followed-even, followed-odd}
use Rattle.clash.proofs.states.follow.Goals as goal

pub returns-then-s-eq0 : goal.returns-then-s-eq0
returns-then-s-eq0 c = followed-even c.if-s-eq0.true refl c.begin.ensures c.part-a.ensures

pub returns : goal.returns
returns c = followed-odd c.if-s-eq0.false refl c.level_of-l.ensures c.resume.ensures
