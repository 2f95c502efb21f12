-- `any_order::heading` meets its contract.
use Rattle.any_order.proofs.Noting.{headed, headed-none}
use Rattle.any_order.proofs.heading.Goals as goal

pub returns-then-kind-top : goal.returns-then-kind-top
returns-then-kind-top c = search (headed)

pub returns : goal.returns
returns c = search (headed-none)
