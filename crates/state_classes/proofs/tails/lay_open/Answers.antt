-- By the last part, and by whether anything is left before it.
use Rattle.state_classes.proofs.Opening.{opened-one, opened-two}
use Rattle.state_classes.proofs.tails.lay_open.Goals as goal

pub returns-in-None : goal.returns-in-None
returns-in-None c = opened-one c.if-t.true c.in_ok-a.ensures c.in-None.ensures

pub returns-in-Some : goal.returns-in-Some
returns-in-Some c = opened-two c.if-t.true c.in_ok-a.ensures c.in-Some.ensures
