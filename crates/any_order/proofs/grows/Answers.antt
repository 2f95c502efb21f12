-- `any_order::grows` meets its contract: a lemma for each way out.
use Rattle.any_order.proofs.Spans.{grows-later, grows-past, grows-here, grows-before}
use Rattle.any_order.proofs.grows.Goals as goal

pub returns-then-kind-last : goal.returns-then-kind-last
returns-then-kind-last c = search (grows-later)

pub returns-then-last-kind : goal.returns-then-last-kind
returns-then-last-kind c = search (grows-past)

pub returns-then-floor-at : goal.returns-then-floor-at
returns-then-floor-at c = search (grows-here)

pub returns : goal.returns
returns c = search (grows-before)
