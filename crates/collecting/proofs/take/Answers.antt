-- `collecting::take` meets its contract: a name put on its shelf, and none.
use Rattle.collecting.proofs.Taking.{its-shelf, taken, not_taken}
use Rattle.collecting.proofs.take.Goals as goal

pub enter-requires : goal.enter-requires
enter-requires c = search (its-shelf)

pub returns-then-s-lt-ALL : goal.returns-then-s-lt-ALL
returns-then-s-lt-ALL c = search (taken)

pub returns-else-s-lt-ALL : goal.returns-else-s-lt-ALL
returns-else-s-lt-ALL c = search (not_taken)
