-- By the state's number.
use mathlib.Core.Path.{refl}
use Rattle.state_classes.proofs.Comparing.{tail-even, tail-odd}
use Rattle.state_classes.proofs.tails.tail_of.Goals as goal

pub returns-then-s-eq0 : goal.returns-then-s-eq0
returns-then-s-eq0 c = tail-even c.if-s-eq0.true refl

pub returns : goal.returns
returns c = tail-odd c.if-s-eq0.false refl c.level_of-level.ensures
