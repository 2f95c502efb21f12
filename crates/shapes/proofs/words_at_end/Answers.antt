-- `shapes::words_at_end` meets its contract: behind a name, and elsewhere.
use Rattle.shapes.proofs.Actions.{end-named, end-other}
use Rattle.shapes.proofs.words_at_end.Goals as goal

pub returns-then-stage-eq2 : goal.returns-then-stage-eq2
returns-then-stage-eq2 c = end-named _ c.if-stage-eq2.true

pub returns : goal.returns
returns c = end-other _ c.if-stage-eq2.false
