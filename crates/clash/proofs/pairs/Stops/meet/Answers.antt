-- A pair that is there already stays where it is.
use Rattle.clash.proofs.Growing.{met-old}
use Rattle.clash.proofs.pairs.Stops.meet.Goals as goal

pub returns-else-i-eq0 : goal.returns-else-i-eq0
returns-else-i-eq0 c = met-old c.find-i.ensures c.if-i-eq0.false
