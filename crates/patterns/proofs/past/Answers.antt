-- `patterns::past` meets its contract.
use Rattle.patterns.proofs.Turns.{past_first, past-second}
use Rattle.patterns.proofs.past.Goals as goal

pub returns-then-a-gt-PLACES : goal.returns-then-a-gt-PLACES
returns-then-a-gt-PLACES c = past_first _ _ c.if-a-gt-PLACES.true

pub returns : goal.returns
returns c = past-second _ _ c.if-a-gt-PLACES.false
