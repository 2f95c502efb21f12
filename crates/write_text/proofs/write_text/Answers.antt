-- each way out.
use mathlib.Core.Bool.{not}
use Rattle.write_text.proofs.Verdicts.{fine-question, ends-refused, ends-unnumbered, ends-long, ends-written}
use mathlib.Core.Path.{refl, ap, ◌∙◌}
use Rattle.reader.proofs.Answers.{handed}
use Rattle.write_text.proofs.write_text.Goals as goal

pub is_numbered-requires : goal.is_numbered-requires
is_numbered-requires c = fine-question _ _ c.read_question.ensures c.in_ok-read_question.was

pub returns-then-not-is_numbered-clause-value : goal.returns-then-not-is_numbered-clause-value
returns-then-not-is_numbered-clause-value c = (ends-unnumbered _ (fine-question _ _ c.read_question.ensures c.in_ok-read_question.was) c.is_numbered.ensures (ap not c.if-not-is_numbered.true)).0

pub returns-then-not-is_numbered-clause-room_after : goal.returns-then-not-is_numbered-clause-room_after
returns-then-not-is_numbered-clause-room_after c = (ends-unnumbered _ (fine-question _ _ c.read_question.ensures c.in_ok-read_question.was) c.is_numbered.ensures (ap not c.if-not-is_numbered.true)).1

pub put_lines-n-requires : goal.put_lines-n-requires
put_lines-n-requires c = fine-question _ _ c.read_question.ensures c.in_ok-read_question.was

pub returns-then-n-stop-clause-value : goal.returns-then-n-stop-clause-value
returns-then-n-stop-clause-value c = (ends-long _ (fine-question _ _ c.read_question.ensures c.in_ok-read_question.was) c.is_numbered.ensures (ap not c.if-not-is_numbered.false) c.put_lines-n.ensures refl c.if-n-stop.true).0

pub returns-then-n-stop-clause-room_after : goal.returns-then-n-stop-clause-room_after
returns-then-n-stop-clause-room_after c = (ends-long _ (fine-question _ _ c.read_question.ensures c.in_ok-read_question.was) c.is_numbered.ensures (ap not c.if-not-is_numbered.false) c.put_lines-n.ensures refl c.if-n-stop.true).1

pub put_lines-requires : goal.put_lines-requires
put_lines-requires c = fine-question _ _ c.read_question.ensures c.in_ok-read_question.was

pub returns-in_err-read_question-clause-value : goal.returns-in_err-read_question-clause-value
returns-in_err-read_question-clause-value c = handed _ _ c.from_residual.ensures.1 ∙ (ends-refused _ _ c.read_question.ensures c.in_err-read_question.was).0

pub returns-in_err-read_question-clause-room_after : goal.returns-in_err-read_question-clause-room_after
returns-in_err-read_question-clause-room_after c = (ends-refused _ _ c.read_question.ensures c.in_err-read_question.was).1

pub returns-clause-value : goal.returns-clause-value
returns-clause-value c = (ends-written _ (fine-question _ _ c.read_question.ensures c.in_ok-read_question.was) c.is_numbered.ensures (ap not c.if-not-is_numbered.false) c.put_lines-n.ensures refl c.if-n-stop.false c.put_lines.ensures).0

pub returns-clause-room_after : goal.returns-clause-room_after
returns-clause-room_after c = (ends-written _ (fine-question _ _ c.read_question.ensures c.in_ok-read_question.was) c.is_numbered.ensures (ap not c.if-not-is_numbered.false) c.put_lines-n.ensures refl c.if-n-stop.false c.put_lines.ensures).1
