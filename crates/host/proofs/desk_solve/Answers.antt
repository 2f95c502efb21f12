-- `host::desk_solve` meets its contract: the words lent come to what the bytes come to.
use Prim.Native.Nat.{ℕ}
use mathlib.Core.Path.{◌≡◌, ◌∙◌}
use mathlib.Core.List.{List}
use lib.ListN.{length, replicate, length-replicate}
use Rattle.language.specs.Limits.{desk}
use Rattle.host.proofs.Solves.{too_short}
use Rattle.host.proofs.Called.{solved-told}
use Rattle.host.proofs.desk_solve.Goals as goal

-- the desk's own slices at the start
abbrev clear : List ℕ
clear = replicate desk.room 0

-- by the law: computing it would walk the whole list
long : length clear ≡ desk.room
long = length-replicate {A = ℕ} desk.room 0

pub returns-clause-value : goal.returns-clause-value
returns-clause-value c = c.from.ensures ∙ (solved-told _ _ c.if-answer-lt-ANSWER_BYTES.false _ clear clear _ _ _ _ c.take_words-n.ensures.words_after.0 long long c.solve.ensures c.solved_number-number.ensures _ c.solve.auto.answer c.put_answer.ensures).0

pub returns-clause-answer_after : goal.returns-clause-answer_after
returns-clause-answer_after c = (solved-told _ _ c.if-answer-lt-ANSWER_BYTES.false _ clear clear _ _ _ _ c.take_words-n.ensures.words_after.0 long long c.solve.ensures c.solved_number-number.ensures _ c.solve.auto.answer c.put_answer.ensures).1

pub returns-then-answer-lt-ANSWER_BYTES-clause-value : goal.returns-then-answer-lt-ANSWER_BYTES-clause-value
returns-then-answer-lt-ANSWER_BYTES-clause-value c = (too_short _ _ c.if-answer-lt-ANSWER_BYTES.true).0

pub returns-then-answer-lt-ANSWER_BYTES-clause-answer_after : goal.returns-then-answer-lt-ANSWER_BYTES-clause-answer_after
returns-then-answer-lt-ANSWER_BYTES-clause-answer_after c = (too_short _ _ c.if-answer-lt-ANSWER_BYTES.true).1
