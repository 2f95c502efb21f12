-- The question is solved, and the line of its answer is shown.
use borrow.Enum.Refused.{opened}
use Rattle.example.proofs.Anew.{solved-refused, solved-ready, solved-shown}
use Rattle.example.proofs.example.Goals as goal

pub returns-in-Refused : goal.returns-in-Refused
returns-in-Refused c = let a = c.args in
    solved-refused a.question.now a.work.now a.answer.now c.solve-s.result c.solve-s.ensures a.room.now a.line a.old c.in-Refused.is

pub show_line-requires : goal.show_line-requires
show_line-requires c = let a = c.args in solved-ready a.question.now a.work.now a.answer.now c.solve-s.result c.solve-s.ensures (opened c.in_default.in_default-own.keys2)

pub returns : goal.returns
returns c = let a = c.args in
    solved-shown a.question.now a.work.now a.answer.now c.solve-s.result c.solve-s.ensures (opened c.in_default.in_default-own.keys2) a.room.now a.line a.old c.show_line.ensures
