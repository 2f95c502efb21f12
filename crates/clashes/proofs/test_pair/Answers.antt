-- `test_pair`: where one of the two mentions an unordered symbol, and where none does.
use Rattle.clashes.proofs.Testing.{first-mentions, second-mentions, none-mentions}
use Rattle.clashes.proofs.test_pair.Goals as goal

pub returns : goal.returns
returns c = none-mentions c.mentions.ensures c.if-mentions.false c.mentions-2.ensures c.if-mentions-2.false c.judge.ensures

pub returns-then-mentions : goal.returns-then-mentions
returns-then-mentions c = first-mentions c.mentions.ensures c.if-mentions.true

pub returns-then-mentions-2 : goal.returns-then-mentions-2
returns-then-mentions-2 c = second-mentions c.mentions-2.ensures c.if-mentions-2.true
