-- `walking::closed` meets its contract: nothing read, and the end of a side.
use mathlib.Core.Bool.{not}
use mathlib.Core.Path.{ap}
use Rattle.walking.proofs.Wholes.{not-closed, is-closed}
use Rattle.walking.proofs.closed.Goals as goal

pub returns-then-not-w : goal.returns-then-not-w
returns-then-not-w c = search (not-closed, ap not c.if-not-w.true)

pub returns : goal.returns
returns c = search (is-closed, ap not c.if-not-w.false)
