-- `any_order::possible` meets its contract: whether 1 lies in the range.
use Rattle.any_order.proofs.Spans.{too_many, yes-endless, too_few, yes-one}
use Rattle.any_order.proofs.possible.Goals as goal

pub returns-then-r-gt1 : goal.returns-then-r-gt1
returns-then-r-gt1 c = search (too_many)

pub returns-then-r : goal.returns-then-r
returns-then-r c = search (yes-endless)

pub returns-then-r-lt1 : goal.returns-then-r-lt1
returns-then-r-lt1 c = search (too_few)

pub returns : goal.returns
returns c = search (yes-one)
