-- `day::solve_day` meets its contract: 1 and 22 before anything is changed, and else what answering the sheet comes to.
use native.Mathlib.Omega.{arith}
use mathlib.Core.Path.{sym, ap, ◌∙◌}
use mathlib.Core.Bool.{not}
use Rattle.day.proofs.Days.{came-short-work, came-short-answer, came-no-sheet, came-answers, came-long}
use Rattle.day.proofs.solve_day.Goals as goal

pub returns-then-work-lt-ROOM-clause-result_value : goal.returns-then-work-lt-ROOM-clause-result_value
returns-then-work-lt-ROOM-clause-result_value c = (let a = c.args in came-short-work a.room.now a.work.now a.answer.now a.sheet.now c.if-work-lt-ROOM.true).0

pub returns-then-work-lt-ROOM-clause-room_after : goal.returns-then-work-lt-ROOM-clause-room_after
returns-then-work-lt-ROOM-clause-room_after c = (let a = c.args in came-short-work a.room.now a.work.now a.answer.now a.sheet.now c.if-work-lt-ROOM.true).1

pub returns-then-answer-lt-ROOM-clause-result_value : goal.returns-then-answer-lt-ROOM-clause-result_value
returns-then-answer-lt-ROOM-clause-result_value c = (let a = c.args in came-short-answer a.room.now a.work.now a.answer.now a.sheet.now c.if-work-lt-ROOM.false c.if-answer-lt-ROOM.true).0

pub returns-then-answer-lt-ROOM-clause-room_after : goal.returns-then-answer-lt-ROOM-clause-room_after
returns-then-answer-lt-ROOM-clause-room_after c = (let a = c.args in came-short-answer a.room.now a.work.now a.answer.now a.sheet.now c.if-work-lt-ROOM.false c.if-answer-lt-ROOM.true).1

pub returns-then-not-laid-clause-result_value : goal.returns-then-not-laid-clause-result_value
returns-then-not-laid-clause-result_value c = (let a = c.args in
    came-no-sheet a.room.now a.work.now a.answer.now a.sheet.now c.if-work-lt-ROOM.false c.if-answer-lt-ROOM.false _ c.laid.ensures (ap not c.if-not-laid.true)).0

pub returns-then-not-laid-clause-room_after : goal.returns-then-not-laid-clause-room_after
returns-then-not-laid-clause-room_after c = (let a = c.args in
    came-no-sheet a.room.now a.work.now a.answer.now a.sheet.now c.if-work-lt-ROOM.false c.if-answer-lt-ROOM.false _ c.laid.ensures (ap not c.if-not-laid.true)).1

pub answer_day-fits-requires : goal.answer_day-fits-requires
answer_day-fits-requires c = (sym c.laid.ensures ∙ c.if-not-laid.false, c.if-work-lt-ROOM.false, c.if-answer-lt-ROOM.false)

pub clear-requires : goal.clear-requires
clear-requires c = let k = c.answer_day-fits.ensures.1.long in let h = c.if-work-lt-ROOM.false in omega arith

pub clear-requires-2 : goal.clear-requires-2
clear-requires-2 c = let k = c.answer_day-fits.ensures.2.long in let h = c.if-answer-lt-ROOM.false in omega arith

pub returns-then-fits-clause-result_value : goal.returns-then-fits-clause-result_value
returns-then-fits-clause-result_value c = (let a = c.args in
    let s = c.answer_day-fits.ensures in
    came-answers a.room.now a.work.now a.answer.now a.sheet.now c.if-work-lt-ROOM.false c.if-answer-lt-ROOM.false _ c.laid.ensures (ap not c.if-not-laid.false) _ _ _ _ _ _ s.0 s.1 s.2 c.clear.ensures c.clear-2.ensures c.if-fits.true).0

pub returns-then-fits-clause-room_after : goal.returns-then-fits-clause-room_after
returns-then-fits-clause-room_after c = (let a = c.args in
    let s = c.answer_day-fits.ensures in
    came-answers a.room.now a.work.now a.answer.now a.sheet.now c.if-work-lt-ROOM.false c.if-answer-lt-ROOM.false _ c.laid.ensures (ap not c.if-not-laid.false) _ _ _ _ _ _ s.0 s.1 s.2 c.clear.ensures c.clear-2.ensures c.if-fits.true).1

pub returns-clause-result_value : goal.returns-clause-result_value
returns-clause-result_value c = (let a = c.args in
    let s = c.answer_day-fits.ensures in
    came-long a.room.now a.work.now a.answer.now a.sheet.now c.if-work-lt-ROOM.false c.if-answer-lt-ROOM.false _ c.laid.ensures (ap not c.if-not-laid.false) _ _ _ _ _ _ s.0 s.1 s.2 c.clear.ensures c.clear-2.ensures c.if-fits.false _ c.clear_words.ensures).0

pub returns-clause-room_after : goal.returns-clause-room_after
returns-clause-room_after c = (let a = c.args in
    let s = c.answer_day-fits.ensures in
    came-long a.room.now a.work.now a.answer.now a.sheet.now c.if-work-lt-ROOM.false c.if-answer-lt-ROOM.false _ c.laid.ensures (ap not c.if-not-laid.false) _ _ _ _ _ _ s.0 s.1 s.2 c.clear.ensures c.clear-2.ensures c.if-fits.false _ c.clear_words.ensures).1
