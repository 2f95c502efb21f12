-- Four stores in a row.
use Rattle.results.proofs.Stores.{wrote-four}
use Rattle.results.proofs.emptying.empty_one.Goals as goal

pub returns : goal.returns
returns c = wrote-four _ _ _ _ _ _
