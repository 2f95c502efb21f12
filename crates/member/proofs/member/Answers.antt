-- `member::member` meets its contract: the run over the hedge's terms decides, from words that stand for both.
use Prim.Native.Nat.{◌*◌}
use Rattle.language.specs.Limits.{desk}
use Rattle.member.proofs.Words.{its-expression, its-hedge, decided, marks-long, room-long, scene-of, lent-all, lent_none}
use Rattle.member.proofs.member.Goals as goal

pub accepts-requires-clause-expression : goal.accepts-requires-clause-expression
accepts-requires-clause-expression c = its-expression c.requires.both

pub accepts-requires-clause-hedge : goal.accepts-requires-clause-hedge
accepts-requires-clause-hedge c = its-hedge c.requires.both

pub accepts-requires-clause-scene : goal.accepts-requires-clause-scene
accepts-requires-clause-scene c = scene-of c.requires.e_len_bound c.requires.h_len_bound (marks-long desk.question)

pub accepts-requires-clause-lent : goal.accepts-requires-clause-lent
accepts-requires-clause-lent c = lent-all c.requires.both c.requires.h_len_bound (room-long (4 * desk.literal))

pub accepts-requires-2-clause-expression : goal.accepts-requires-2-clause-expression
accepts-requires-2-clause-expression c = its-expression c.requires.both

pub accepts-requires-2-clause-hedge : goal.accepts-requires-2-clause-hedge
accepts-requires-2-clause-hedge c = its-hedge c.requires.both

pub accepts-requires-2-clause-scene : goal.accepts-requires-2-clause-scene
accepts-requires-2-clause-scene c = scene-of c.requires.e_len_bound c.requires.h_len_bound (marks-long desk.question)

pub accepts-requires-2-clause-lent : goal.accepts-requires-2-clause-lent
accepts-requires-2-clause-lent c = lent_none c.any_unordered.ensures c.if-any_unordered.false

pub returns-then-any_unordered : goal.returns-then-any_unordered
returns-then-any_unordered c = decided c.accepts.ensures.accepted

pub returns : goal.returns
returns c = decided c.accepts-2.ensures.accepted
