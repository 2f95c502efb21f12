-- `any_order::repeat` meets its contract: a lemma for each way out.
use Rattle.any_order.proofs.Ranges.{repeated-none, repeated}
use Rattle.any_order.proofs.repeat.Goals as goal

pub returns-then-empty : goal.returns-then-empty
returns-then-empty c = search (repeated-none)

pub returns : goal.returns
returns c = search (repeated)
