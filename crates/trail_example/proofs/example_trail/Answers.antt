-- The trail is replayed, and the line of its answer is shown.
use borrow.Enum.Refused.{opened}
use Rattle.trail_example.proofs.Retraced.{retraced-refused, retraced-ready, retraced-shown}
use Rattle.trail_example.proofs.example_trail.Goals as goal

pub returns-in-Refused : goal.returns-in-Refused
returns-in-Refused c = let a = c.args in
    retraced-refused a.trail.now a.question.now a.work.now a.answer.now c.replay-s.result c.replay-s.ensures a.room.now a.line a.old c.in-Refused.is

pub show_line-requires : goal.show_line-requires
show_line-requires c = let a = c.args in retraced-ready a.trail.now a.question.now a.work.now a.answer.now c.replay-s.result c.replay-s.ensures (opened c.in_default.in_default-own.keys2)

pub returns : goal.returns
returns c = let a = c.args in
    retraced-shown a.trail.now a.question.now a.work.now a.answer.now c.replay-s.result c.replay-s.ensures (opened c.in_default.in_default-own.keys2) a.room.now a.line a.old c.show_line.ensures
