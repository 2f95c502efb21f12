-- `ready`: 1, then 2 to 6 by the reader.
use mathlib.Core.Path.{◌∙◌}
use Rattle.reader.proofs.Answers.{as-checked}
use Rattle.around.proofs.Laws.{short-work, short-answer, both_long}
use Rattle.around.proofs.ready.Goals as goal

pub returns : goal.returns
returns c = as-checked c.read_question.result _ c.read_question.ensures ∙ both_long _ _ _ c.if-work-lt-ROOM.false c.if-answer-lt-ROOM.false

pub returns-then-work-lt-ROOM : goal.returns-then-work-lt-ROOM
returns-then-work-lt-ROOM c = short-work _ _ _ c.if-work-lt-ROOM.true

pub returns-then-answer-lt-ROOM : goal.returns-then-answer-lt-ROOM
returns-then-answer-lt-ROOM c = short-answer _ _ _ c.if-work-lt-ROOM.false c.if-answer-lt-ROOM.true
