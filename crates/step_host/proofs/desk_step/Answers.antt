-- `step_host::desk_step` meets its contract: the words lent come to what the bytes come to.
use Prim.Native.Nat.{ℕ}
use mathlib.Core.Path.{◌≡◌}
use mathlib.Core.List.{List}
use lib.ListN.{length, replicate, length-replicate}
use Rattle.language.specs.Limits.{desk}
use native.Mathlib.Omega.{arith}
use Rattle.step_host.proofs.Steps.{triple-as, too_short, within, was-made, was-refused}
use Rattle.step_host.proofs.desk_step.Goals as goal

-- the desk's own slice at the start
abbrev clear : List ℕ
clear = replicate desk.room 0

-- by the law: computing it would walk the whole list
long : length clear ≡ desk.room
long = length-replicate {A = ℕ} desk.room 0

pub returns-in-Ok-clause-value : goal.returns-in-Ok-clause-value
returns-in-Ok-clause-value c = (was-made c.args.question.now c.args.room.now _ _ c.if-room-lt-ANSWER_BYTES.false _ clear _ c.take_words-n.ensures.words_after.0 long _ _ _ c.word-w.ensures (triple-as c.word-r.ensures c.word-l.ensures c.word-s.ensures) c.step_named.ensures
    c.step_named.auto.work _ _ c.in-Ok.is c.write_words.ensures).0

pub returns-in-Ok-clause-room_after : goal.returns-in-Ok-clause-room_after
returns-in-Ok-clause-room_after c = (was-made c.args.question.now c.args.room.now _ _ c.if-room-lt-ANSWER_BYTES.false _ clear _ c.take_words-n.ensures.words_after.0 long _ _ _ c.word-w.ensures (triple-as c.word-r.ensures c.word-l.ensures c.word-s.ensures) c.step_named.ensures
    c.step_named.auto.work _ _ c.in-Ok.is c.write_words.ensures).1

pub returns-in-Err-clause-value : goal.returns-in-Err-clause-value
returns-in-Err-clause-value c = (was-refused c.args.question.now c.args.room.now _ _ c.if-room-lt-ANSWER_BYTES.false _ clear _ c.take_words-n.ensures.words_after.0 long _ _ _ c.word-w.ensures (triple-as c.word-r.ensures c.word-l.ensures c.word-s.ensures) c.step_named.ensures
    c.step_named.auto.work _ _ _ c.in-Err.is c.refuse.ensures.value c.refuse.ensures.room_after).0

pub returns-in-Err-clause-room_after : goal.returns-in-Err-clause-room_after
returns-in-Err-clause-room_after c = (was-refused c.args.question.now c.args.room.now _ _ c.if-room-lt-ANSWER_BYTES.false _ clear _ c.take_words-n.ensures.words_after.0 long _ _ _ c.word-w.ensures (triple-as c.word-r.ensures c.word-l.ensures c.word-s.ensures) c.step_named.ensures
    c.step_named.auto.work _ _ _ c.in-Err.is c.refuse.ensures.value c.refuse.ensures.room_after).1

pub returns-then-room-lt-ANSWER_BYTES-clause-value : goal.returns-then-room-lt-ANSWER_BYTES-clause-value
returns-then-room-lt-ANSWER_BYTES-clause-value c = (too_short _ _ _ _ c.if-room-lt-ANSWER_BYTES.true).0

pub returns-then-room-lt-ANSWER_BYTES-clause-room_after : goal.returns-then-room-lt-ANSWER_BYTES-clause-room_after
returns-then-room-lt-ANSWER_BYTES-clause-room_after c = (too_short _ _ _ _ c.if-room-lt-ANSWER_BYTES.true).1

pub overflow_cast-result : goal.overflow_cast-result
overflow_cast-result c = let h = within c.args.question.now c.args.room.now _ _ c.if-room-lt-ANSWER_BYTES.false _ clear _ c.take_words-n.ensures.words_after.0 long _ _ _ c.word-w.ensures (triple-as c.word-r.ensures c.word-l.ensures c.word-s.ensures) c.step_named.ensures _ c.in-Ok.is in
    omega arith

pub overflow_add-result : goal.overflow_add-result
overflow_add-result c = let h = within c.args.question.now c.args.room.now _ _ c.if-room-lt-ANSWER_BYTES.false _ clear _ c.take_words-n.ensures.words_after.0 long _ _ _ c.word-w.ensures (triple-as c.word-r.ensures c.word-l.ensures c.word-s.ensures) c.step_named.ensures _ c.in-Ok.is in
    omega arith
