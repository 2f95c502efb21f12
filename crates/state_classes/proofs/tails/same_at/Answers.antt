-- The same place, or the same words.
use Rattle.state_classes.proofs.Opening.{alike_same, alike-words}
use Rattle.state_classes.proofs.tails.same_at.Goals as goal

pub returns-then-a-b : goal.returns-then-a-b
returns-then-a-b c = alike_same c.if-a-b.true

pub returns : goal.returns
returns c = alike-words c.part-p.ensures c.part-q.ensures c.same_part.ensures
