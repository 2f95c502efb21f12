-- `shapes::is_end` meets its contract: with brackets open, and without.
use Rattle.shapes.proofs.Actions.{no_end, end-if}
use Rattle.shapes.proofs.is_end.Goals as goal

pub returns-then-action-lt30 : goal.returns-then-action-lt30
returns-then-action-lt30 c = no_end _ _ c.if-action-lt30.true

pub returns : goal.returns
returns c = end-if _ _ c.if-action-lt30.false
