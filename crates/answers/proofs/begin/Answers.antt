-- Zeros, and then the end of no line.
use Rattle.answers.proofs.Tallies.{begun}
use Rattle.answers.proofs.begin.Goals as goal

pub returns : goal.returns
returns c = begun _ _ _ c.clear.ensures c.store.ensures
