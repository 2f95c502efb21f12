-- By the keys, and then by the two tests.
use mathlib.Core.Path.{subst}
use Rattle.state_classes.specs.Classes.{StateTest}
use Rattle.state_classes.proofs.Classing.{like-none, like-same, like-apart}
use Rattle.state_classes.proofs.is_like.Goals as goal

pub returns-then-is_state : goal.returns-then-is_state
returns-then-is_state c = like-same (subst (StateTest _ _ _) c.if-is_state.true c.is_state.ensures) c.same_state.ensures

pub returns-then-x-y : goal.returns-then-x-y
returns-then-x-y c = like-none (subst (StateTest _ _ _) c.if-is_state.false c.is_state.ensures)

pub returns : goal.returns
returns c = like-apart c.requires.0 c.requires.1 c.if-x-y.false
