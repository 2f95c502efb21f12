-- By the two symbols, and then by the two pairs.
use Rattle.clash.proofs.Leading.{leads-same, leads-other}
use Rattle.clash.proofs.sweeps.leads.Goals as goal

pub returns-then-k-p : goal.returns-then-k-p
returns-then-k-p c = leads-same _ _ c.if-k-p.true c.known-x.ensures c.known-y.ensures c.and.ensures

pub returns : goal.returns
returns c = leads-other c.if-k-p.false
