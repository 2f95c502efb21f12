-- As tails.
use Rattle.state_classes.proofs.Comparing.{same-states}
use Rattle.state_classes.proofs.tails.same_state.Goals as goal

pub returns : goal.returns
returns c = same-states c.tail_of-a.ensures c.tail_of-b.ensures c.same.ensures
