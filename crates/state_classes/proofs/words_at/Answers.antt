-- From the chart.
use Rattle.state_classes.proofs.Classing.{counted}
use Rattle.state_classes.proofs.words_at.Goals as goal

pub returns : goal.returns
returns c = counted c.part-p.ensures c.narrow.ensures
