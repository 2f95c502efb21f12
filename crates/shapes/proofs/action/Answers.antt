-- `shapes::action` meets its contract: by the state.
use Rattle.shapes.proofs.Actions.{at-opened, at-wanted, at_named, at_ready}
use Rattle.shapes.proofs.action.Goals as goal

pub returns-then-stage-eq0 : goal.returns-then-stage-eq0
returns-then-stage-eq0 c = search (at-opened)

pub returns-then-stage-eq1 : goal.returns-then-stage-eq1
returns-then-stage-eq1 c = search (at-wanted)

pub returns-then-stage-eq2 : goal.returns-then-stage-eq2
returns-then-stage-eq2 c = search (at_named)

pub returns : goal.returns
returns c = search (at_ready)
