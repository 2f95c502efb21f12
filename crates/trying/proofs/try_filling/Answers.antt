-- `trying::try_filling` meets its contract: the slice is too short, the question is refused, or it is tried.
use native.Mathlib.Omega.{arith}
use borrow.Author.Rules.{rules}
use Rattle.reader.proofs.Answers.{as-checked}
use Rattle.trying.proofs.Outcomes.{short-slice, refused-question, question-long, question-asked, question-tried}
use Rattle.trying.proofs.try_filling.Goals as goal

pub returns-then-work-lt-ROOM : goal.returns-then-work-lt-ROOM
returns-then-work-lt-ROOM c = short-slice _ _ c.args.work.now (omega arith)

pub read_header-h-requires : goal.read_header-h-requires
read_header-h-requires c = let a = c.args in
    let l = question-long a.question.now a.filling.now a.work.now (omega arith) (as-checked c.read_question.result _ c.read_question.ensures) c.in-Ok.is in
    search rules

pub try_asked-requires : goal.try_asked-requires
try_asked-requires c = let a = c.args in
    record {
      asked_question = question-asked a.question.now a.filling.now a.work.now (omega arith) (as-checked c.read_question.result _ c.read_question.ensures) c.in-Ok.is c.read_header-h.ensures;
      room_in_bounds = search rules;
    }

pub returns-in-Err : goal.returns-in-Err
returns-in-Err c = refused-question _ _ c.args.work.now (omega arith) (as-checked c.read_question.result _ c.read_question.ensures) c.in-Err.is

pub returns-in-Ok : goal.returns-in-Ok
returns-in-Ok c = question-tried _ _ _ (omega arith) (as-checked c.read_question.result _ c.read_question.ensures) c.in-Ok.is c.read_header-h.ensures c.try_asked.ensures
