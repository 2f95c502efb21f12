-- `any_order::meet` meets its contract: a lemma for each way out.
use Rattle.any_order.proofs.Ranges.{met-left-open, met-right-open, met-closed}
use Rattle.any_order.proofs.meet.Goals as goal

pub returns-then-a : goal.returns-then-a
returns-then-a c = search (met-left-open)

pub returns-then-b : goal.returns-then-b
returns-then-b c = search (met-right-open)

pub returns : goal.returns
returns c = search (met-closed)
