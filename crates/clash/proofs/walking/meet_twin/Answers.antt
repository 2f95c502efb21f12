-- Two pairs, or none.
use Rattle.clash.proofs.Growing.{twin-same}
use Rattle.clash.proofs.walking.meet_twin.Goals as goal

pub returns-then-k-p : goal.returns-then-k-p
returns-then-k-p c = twin-same c.if-k-p.true c.meet.ensures c.meet-then-k-p.ensures
