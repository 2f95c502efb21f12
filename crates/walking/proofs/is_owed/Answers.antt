-- `walking::is_owed` meets its contract: behind a functor, and elsewhere.
use Rattle.walking.proofs.Tokens.{owed-behind, owed-nowhere}
use Rattle.walking.proofs.is_owed.Goals as goal

pub returns-then-stage-eq2 : goal.returns-then-stage-eq2
returns-then-stage-eq2 c = owed-behind _ _ c.if-stage-eq2.true

pub returns : goal.returns
returns c = owed-nowhere _ _ c.if-stage-eq2.false
