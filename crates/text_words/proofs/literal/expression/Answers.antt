-- `text_words::literal::expression` meets its contract: no expression, one that does not end there, one too long, and one that is written.
use mathlib.Core.Bool.{not}
use mathlib.Core.Path.{ap}
use Rattle.language.specs.Limits.{desk}
use Rattle.text_words.proofs.Sides.{no-expression, not-ended, expression-full, writable, expression-written, part-long}
use Rattle.text_words.proofs.literal.expression.Goals as goal

pub returns-then-not-s : goal.returns-then-not-s
returns-then-not-s c = (no-expression desk _ _ c.requires c.shape-s.ensures c.if-not-s.true)

pub returns-then-not-is_over : goal.returns-then-not-is_over
returns-then-not-is_over c = (not-ended desk _ _ c.requires c.shape-s.ensures c.if-not-s.false c.next-p.ensures c.is_over.ensures (ap not c.if-not-is_over.true))

pub returns-then-room-n : goal.returns-then-room-n
returns-then-room-n c = (expression-full desk _ _ c.requires c.shape-s.ensures c.if-not-s.false c.next-p.ensures c.is_over.ensures (ap not c.if-not-is_over.false) c.if-room-n.true)

pub write_expression-requires : goal.write_expression-requires
write_expression-requires c = writable desk _ _ c.requires c.shape-s.ensures c.if-not-s.false c.next-p.ensures c.is_over.ensures (ap not c.if-not-is_over.false) c.if-room-n.false (part-long c.requires c.if-room-n.false)

pub returns : goal.returns
returns c = (expression-written desk _ _ c.requires c.shape-s.ensures c.if-not-s.false c.next-p.ensures c.is_over.ensures (ap not c.if-not-is_over.false) c.if-room-n.false c.write_expression.ensures)
