-- By the place of the pair.
use Rattle.clash.proofs.Leading.{known-none, known-low, known_at}
use Rattle.clash.proofs.sweeps.known.Goals as goal

pub returns-then-i-eq0 : goal.returns-then-i-eq0
returns-then-i-eq0 c = known-none c.find-i.ensures c.if-i-eq0.true

pub bounds-marks-i : goal.bounds-marks-i
bounds-marks-i c = known-low c.args.met.now.chained c.find-i.ensures c.if-i-eq0.false

pub returns : goal.returns
returns c = known_at _ c.args.met.now.chained c.find-i.ensures c.if-i-eq0.false
