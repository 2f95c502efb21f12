-- `any_order::empty` meets its contract: a lemma for each way out.
use Rattle.any_order.proofs.Ranges.{open-some, closed_some, closed_none}
use Rattle.any_order.proofs.empty.Goals as goal

pub returns-then-r : goal.returns-then-r
returns-then-r c = search (open-some)

pub returns-then-r-2 : goal.returns-then-r-2
returns-then-r-2 c = search (closed_none)

pub returns : goal.returns
returns c = search (closed_some)
