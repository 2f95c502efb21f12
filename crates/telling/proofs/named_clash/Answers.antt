-- `named_clash`: what the tests behind the literal come to.
use Rattle.telling.proofs.Laws.{clash-other-side, clash-shares, clash-here, clash-long}
use Rattle.telling.proofs.named_clash.Goals as goal

pub returns-then-swap : goal.returns-then-swap
returns-then-swap c = λ before l behind s. clash-other-side c.args.s before l behind _ _ c.if-swap.true

pub returns-in-Shares : goal.returns-in-Shares
returns-in-Shares c = λ before l behind s. clash-shares c.args.s before l behind _ _ c.if-swap.false _ (c.test_behind.ensures before l behind s) c.in-Shares.is

pub returns-in-Clashes : goal.returns-in-Clashes
returns-in-Clashes c = λ before l behind s. clash-here c.args.s before l behind _ _ c.if-swap.false _ (c.test_behind.ensures before l behind s) c.in-Clashes.is

pub returns-in-Long : goal.returns-in-Long
returns-in-Long c = λ before l behind s. clash-long c.args.s before l behind _ _ c.if-swap.false _ (c.test_behind.ensures before l behind s) c.in-Long.is
