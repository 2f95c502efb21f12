-- `expression_words::out` meets its contract: nothing is owed before any bracket, before this one, or it is owed again.
use Rattle.expression_words.proofs.Rows.{released-none, released-other, released-top}
use Rattle.expression_words.proofs.out.Goals as goal

pub returns-then-k-eq0 : goal.returns-then-k-eq0
returns-then-k-eq0 c = released-none c.args.s c.outer-d.ensures c.if-k-eq0.true c.unowed.ensures

pub returns-then-depths-top : goal.returns-then-depths-top
returns-then-depths-top c = released-other c.args.s _ _ _ c.outer-d.ensures c.if-k-eq0.false c.if-depths-top.true c.unowed-then-depths-top.ensures

pub returns : goal.returns
returns c = released-top c.args.s _ _ _ c.outer-d.ensures c.if-k-eq0.false c.if-depths-top.false c.wide-c.ensures
