-- `run_course`: 1 to 6, or the run on its course.
use mathlib.Core.Path.{sym, ◌∙◌}
use native.Mathlib.Omega.{arith}
use lib.ListN.{length}
use Rattle.language.specs.Limits.{desk}
use Rattle.language.specs.Question.{read_question}
use Rattle.running.proofs.Ending.{is-ready, ends-told, told-unread, told-ran}
use Rattle.running.proofs.Calling.{calls-unread, calls-ran, trail-of, room-told, room-unread, room_as}
use Rattle.running.proofs.run_course.Goals as goal

pub run-ran-requires : goal.run-ran-requires
run-ran-requires c = let r = is-ready _ _ _ (sym c.in-Ok.is ∙ c.ready.ensures) in (r.fine, r.work-fits, r.answer-fits)

pub tell-requires : goal.tell-requires
tell-requires c = let r = is-ready _ _ _ (sym c.in-Ok.is ∙ c.ready.ensures) in
    let a = c.run-ran.auto.work in
    let b = c.run-ran.auto.answer in
    (omega arith, omega arith)

pub returns-in-Ok : goal.returns-in-Ok
returns-in-Ok c = let a = c.args in
    let q = a.question.now in
    let r = is-ready (length a.work.now) (length a.answer.now) (read_question desk q) (sym c.in-Ok.is ∙ c.ready.ensures) in
    let v = calls-ran a.told.now (length a.work.now) (length a.answer.now) (length a.out.now) q r a.course in record {
      answer_after = told-ran _ _ _ a.work.now a.answer.now (ends-told c.tell.ensures c.run-ran.ensures) v;
      out_after = room_as a.course _ _ _ _ a.out.now v (trail-of a.told.now (length a.work.now) (length a.answer.now) (length a.out.now) q r)
          (room-told a.course a.told.now a.out.now _ _ _ _ _ _ _ _ c.run-ran.ensures c.run-ran.auto.out _ c.settle.ensures);
    }

pub returns-in-Err : goal.returns-in-Err
returns-in-Err c = let a = c.args in
    let v = calls-unread a.told.now (length a.work.now) (length a.answer.now) (length a.out.now) a.question.now a.course _ (sym c.in-Err.is ∙ c.ready.ensures) in
    record {
      answer_after = told-unread _ _ _ a.work.now a.answer.now c.refused.ensures v;
      out_after = room-unread _ _ _ a.out.now v;
    }
