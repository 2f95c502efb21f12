-- By the two tests.
use Rattle.clash.proofs.Chaining.{tested-one, tested-none}
use Rattle.clash.proofs.pairs.Stops.stands.Goals as goal

pub returns-then-self-i : goal.returns-then-self-i
returns-then-self-i c = search (tested-one)

pub returns : goal.returns
returns c = search (tested-none)
