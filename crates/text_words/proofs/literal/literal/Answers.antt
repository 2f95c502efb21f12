-- `text_words::literal::literal` meets its contract: no side, an equation, no literal, a membership.
use mathlib.Core.Bool.{not}
use mathlib.Core.Path.{ap}
use Rattle.language.specs.Limits.{desk}
use Rattle.text_words.proofs.Literals.{no-literal, right-starts, an-equation, neither, expression-starts, a-membership}
use Rattle.text_words.proofs.literal.literal.Goals as goal

pub returns-then-not-l : goal.returns-then-not-l
returns-then-not-l c = (no-literal desk _ _ c.requires c.put_if-k.ensures c.side-l.ensures c.if-not-l.true)

pub right_side-r-requires : goal.right_side-r-requires
right_side-r-requires c = right-starts desk _ _ c.requires c.put_if-k.ensures c.side-l.ensures c.if-not-l.false c.next-p.ensures c.is_equals.ensures c.if-is_equals.true

pub returns-then-is_equals : goal.returns-then-is_equals
returns-then-is_equals c = (an-equation desk _ _ c.requires c.put_if-k.ensures c.side-l.ensures c.if-not-l.false c.next-p.ensures c.is_equals.ensures c.if-is_equals.true c.right_side-r.ensures c.put_head.ensures)

pub returns-then-not-is_in : goal.returns-then-not-is_in
returns-then-not-is_in c = (neither desk _ _ c.requires c.put_if-k.ensures c.side-l.ensures c.if-not-l.false c.next-p.ensures c.is_equals.ensures c.if-is_equals.false c.is_in.ensures (ap not c.if-not-is_in.true))

pub expression-r-requires : goal.expression-r-requires
expression-r-requires c = (expression-starts desk _ _ c.requires c.put_if-k.ensures c.side-l.ensures c.if-not-l.false c.next-p.ensures c.is_equals.ensures c.if-is_equals.false c.is_in.ensures (ap not c.if-not-is_in.false))

pub returns : goal.returns
returns c = (a-membership desk _ _ c.requires c.put_if-k.ensures c.side-l.ensures c.if-not-l.false c.next-p.ensures c.is_equals.ensures c.if-is_equals.false c.is_in.ensures (ap not c.if-not-is_in.false) c.expression-r.ensures c.put_head-2.ensures)
