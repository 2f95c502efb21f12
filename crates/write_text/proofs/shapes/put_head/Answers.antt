-- a bracket, and a symbol where it is one.
use Rattle.write_text.proofs.Shaping.{head-symbol, head-other}
use Rattle.write_text.proofs.shapes.put_head.Goals as goal

pub returns-then-x-lt7000 : goal.returns-then-x-lt7000
returns-then-x-lt7000 c = head-symbol c.args.t c.args.x _ c.brace.ensures c.put-n.ensures c.if-x-lt7000.true c.put_word.ensures

pub returns : goal.returns
returns c = head-other c.args.t c.args.x _ c.brace.ensures c.put-n.ensures c.if-x-lt7000.false
