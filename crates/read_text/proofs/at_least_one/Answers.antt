-- `read_text::at_least_one` meets its contract: 1 for 0.
use Rattle.read_text.proofs.Leaves.{some-already}
use Rattle.read_text.proofs.at_least_one.Goals as goal

pub returns : goal.returns
returns c = some-already _ c.if-n-eq0.false
