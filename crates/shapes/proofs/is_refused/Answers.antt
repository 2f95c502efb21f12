-- `shapes::is_refused` meets its contract: by the first digit.
use Rattle.shapes.proofs.Actions.{refused-0, refused-5}
use Rattle.shapes.proofs.is_refused.Goals as goal

pub returns-then-kind-eq0 : goal.returns-then-kind-eq0
returns-then-kind-eq0 c = refused-0 _ c.if-kind-eq0.true

pub returns : goal.returns
returns c = refused-5 _ c.if-kind-eq0.false
