-- `any_order::plus` meets its contract: a lemma for each way out.
use Rattle.any_order.proofs.Ranges.{added-left-none, added-right-none, added}
use Rattle.any_order.proofs.plus.Goals as goal

pub returns-then-empty : goal.returns-then-empty
returns-then-empty c = search (added-left-none)

pub returns-then-empty-2 : goal.returns-then-empty-2
returns-then-empty-2 c = search (added-right-none)

pub returns : goal.returns
returns c = search (added)
