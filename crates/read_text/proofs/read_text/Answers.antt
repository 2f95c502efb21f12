-- `read_text::read_text` meets its contract: each way out.
use mathlib.Core.Path.{refl, sym, ◌∙◌}
use lib.ListN.{length-replicate}
use Prim.Native.Nat.{ℕ, ◌+◌, ◌*◌}
use Rattle.language.specs.Limits.{desk}
use Rattle.collecting.proofs.Zeros.{empty-shelves}
use Rattle.read_text.proofs.Whole.{done-tokens, lined, done-lines, done-many, done-long, done-room, done-given}
use native.Mathlib.Omega.{arith}
use Rattle.read_text.proofs.read_text.Goals as goal

pub returns-in_default-clause-value : goal.returns-in_default-clause-value
returns-in_default-clause-value c = (done-tokens _ _ c.survey.ensures c.in_default.is).0

pub returns-in_default-clause-room_after : goal.returns-in_default-clause-room_after
returns-in_default-clause-room_after c = (done-tokens _ _ c.survey.ensures c.in_default.is).1

pub write_lines-requires : goal.write_lines-requires
write_lines-requires c = lined _ _ _ _ c.survey.ensures c.in-Some.is c.collect.ensures c.first_word.ensures (length-replicate {A = ℕ} (desk.question + 1) 0)

pub returns-in_default-write_lines-clause-value : goal.returns-in_default-write_lines-clause-value
returns-in_default-write_lines-clause-value c = (done-lines _ _ _ _ _ c.survey.ensures c.in-Some.is refl c.collect.ensures c.first_word.ensures c.write_lines.ensures c.in_default-write_lines.is).0

pub returns-in_default-write_lines-clause-room_after : goal.returns-in_default-write_lines-clause-room_after
returns-in_default-write_lines-clause-room_after c = (done-lines _ _ _ _ _ c.survey.ensures c.in-Some.is refl c.collect.ensures c.first_word.ensures c.write_lines.ensures c.in_default-write_lines.is).1

pub is_many-requires : goal.is_many-requires
is_many-requires c = omega (arith, c.collect.ensures.len, length-replicate {A = ℕ} (4 * (desk.each + 2)) 0)

pub returns-then-is_many-clause-value : goal.returns-then-is_many-clause-value
returns-then-is_many-clause-value c = (done-many _ _ _ _ _ c.survey.ensures c.in-Some.is refl c.collect.ensures c.first_word.ensures c.write_lines.ensures c.in-Some-write_lines.is c.is_many.ensures c.if-is_many.true).0

pub returns-then-is_many-clause-room_after : goal.returns-then-is_many-clause-room_after
returns-then-is_many-clause-room_after c = (done-many _ _ _ _ _ c.survey.ensures c.in-Some.is refl c.collect.ensures c.first_word.ensures c.write_lines.ensures c.in-Some-write_lines.is c.is_many.ensures c.if-is_many.true).1

pub returns-then-n-gt-QUESTION-clause-value : goal.returns-then-n-gt-QUESTION-clause-value
returns-then-n-gt-QUESTION-clause-value c = (done-long _ _ _ _ _ c.survey.ensures c.in-Some.is refl c.collect.ensures c.first_word.ensures c.write_lines.ensures c.in-Some-write_lines.is c.is_many.ensures c.if-is_many.false (length-replicate {A = ℕ} (desk.question + 1) 0) c.if-n-gt-QUESTION.true).0

pub returns-then-n-gt-QUESTION-clause-room_after : goal.returns-then-n-gt-QUESTION-clause-room_after
returns-then-n-gt-QUESTION-clause-room_after c = (done-long _ _ _ _ _ c.survey.ensures c.in-Some.is refl c.collect.ensures c.first_word.ensures c.write_lines.ensures c.in-Some-write_lines.is c.is_many.ensures c.if-is_many.false (length-replicate {A = ℕ} (desk.question + 1) 0) c.if-n-gt-QUESTION.true).1

pub returns-then-room-n-clause-value : goal.returns-then-room-n-clause-value
returns-then-room-n-clause-value c = (done-room _ _ _ _ _ c.survey.ensures c.in-Some.is refl c.collect.ensures c.first_word.ensures c.write_lines.ensures c.in-Some-write_lines.is c.is_many.ensures c.if-is_many.false (length-replicate {A = ℕ} (desk.question + 1) 0) c.if-n-gt-QUESTION.false c.if-room-n.true).0

pub returns-then-room-n-clause-room_after : goal.returns-then-room-n-clause-room_after
returns-then-room-n-clause-room_after c = (done-room _ _ _ _ _ c.survey.ensures c.in-Some.is refl c.collect.ensures c.first_word.ensures c.write_lines.ensures c.in-Some-write_lines.is c.is_many.ensures c.if-is_many.false (length-replicate {A = ℕ} (desk.question + 1) 0) c.if-n-gt-QUESTION.false c.if-room-n.true).1

pub write_header-requires : goal.write_header-requires
write_header-requires c = (omega (arith, c.collect.ensures.len, length-replicate {A = ℕ} (4 * (desk.each + 2)) 0), sym c.is_many.ensures ∙ c.if-is_many.false)

pub returns-clause-value : goal.returns-clause-value
returns-clause-value c = (done-given _ _ _ _ _ c.survey.ensures c.in-Some.is refl c.collect.ensures c.first_word.ensures c.write_lines.ensures c.in-Some-write_lines.is c.is_many.ensures c.if-is_many.false (length-replicate {A = ℕ} (desk.question + 1) 0) c.if-n-gt-QUESTION.false c.if-room-n.false c.write_header.ensures c.copy.ensures).0

pub returns-clause-room_after : goal.returns-clause-room_after
returns-clause-room_after c = (done-given _ _ _ _ _ c.survey.ensures c.in-Some.is refl c.collect.ensures c.first_word.ensures c.write_lines.ensures c.in-Some-write_lines.is c.is_many.ensures c.if-is_many.false (length-replicate {A = ℕ} (desk.question + 1) 0) c.if-n-gt-QUESTION.false c.if-room-n.false c.write_header.ensures c.copy.ensures).1

pub collect-requires : goal.collect-requires
collect-requires c = empty-shelves refl
