-- `trail_host::desk_solve_trail` meets its contract: the words and the room lent come to what the bytes come to.
use Prim.Native.Nat.{ℕ, ◌≤◌}
use mathlib.Core.Path.{◌≡◌, ap, ◌∙◌, sym, subst}
use mathlib.Core.List.{List}
use native.Mathlib.Omega.{arith}
use lib.ListN.{length, take, replicate, length-replicate}
use lib.Seq.{length-take-le}
use Rattle.language.specs.Limits.{desk}
use Rattle.rules.specs.Answer.{Solving}
use Rattle.host.specs.Host.{solve_leaves}
use Rattle.trail_host.specs.Host.{longest_trail, trail_number}
use Rattle.trail_host.proofs.Lent.{same-trail, trail-lent}
use Rattle.trail_host.proofs.Notes.{too_short, room_as}
use Rattle.trail_host.proofs.desk_solve_trail.Goals as goal

-- the desk's own trail at the start
abbrev clear : List ℕ
clear = replicate (longest_trail desk) 0

-- as many of its words as the room has; by the law, since computing the length would walk the whole list
within : (m : ℕ) → m ≤ longest_trail desk → length (take m clear) ≡ m
within m h = length-take-le m clear (subst (λ n. m ≤ n) (sym (length-replicate {A = ℕ} (longest_trail desk) 0)) h)

pub note-requires : goal.note-requires
note-requires c = let n : length (take c.most-m.result clear) ≡ c.most-m.result = within _ (omega arith) in
    let h = c.if-answer-lt-ANSWER_BYTES.false in
    (omega arith, omega arith, omega arith)

pub returns : goal.returns
returns c = let a = c.args in
    let n : length (take c.most-m.result clear) ≡ c.most-m.result = within _ (omega arith) in
    let words = c.take_words-n.ensures.words_after.0 in
    let e = trail-lent a.question.now _ words (length a.answer.now) (length a.trail.now) _ c.if-answer-lt-ANSWER_BYTES.false (n ∙ c.most-m.ensures.0) in
    let r = c.note.ensures in
    record {
      value = r.value ∙ ap trail_number e;
      answer_after = r.answer_after ∙ ap (λ (s : Solving). solve_leaves desk s a.answer.now) e;
      trail_after = room_as a.trail.now e (same-trail a.question.now _ words) r.trail_after;
    }

pub returns-then-answer-lt-ANSWER_BYTES-clause-value : goal.returns-then-answer-lt-ANSWER_BYTES-clause-value
returns-then-answer-lt-ANSWER_BYTES-clause-value c = (too_short _ _ _ c.if-answer-lt-ANSWER_BYTES.true).0

pub returns-then-answer-lt-ANSWER_BYTES-clause-answer_after : goal.returns-then-answer-lt-ANSWER_BYTES-clause-answer_after
returns-then-answer-lt-ANSWER_BYTES-clause-answer_after c = (too_short _ _ _ c.if-answer-lt-ANSWER_BYTES.true).1.0

pub returns-then-answer-lt-ANSWER_BYTES-clause-trail_after : goal.returns-then-answer-lt-ANSWER_BYTES-clause-trail_after
returns-then-answer-lt-ANSWER_BYTES-clause-trail_after c = (too_short _ _ _ c.if-answer-lt-ANSWER_BYTES.true).1.1

pub slice_bounds-note-end-2 : goal.slice_bounds-note-end-2
slice_bounds-note-end-2 c = sym (within _ (omega arith))
