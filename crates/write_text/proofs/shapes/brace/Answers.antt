-- by the answer.
use Rattle.write_text.proofs.Shaping.{braced, not-braced}
use Rattle.write_text.proofs.shapes.brace.Goals as goal

pub returns-then-is_open : goal.returns-then-is_open
returns-then-is_open c = braced c.args.t c.args.x c.args.b c.is_open.ensures c.if-is_open.true

pub returns : goal.returns
returns c = not-braced c.args.t c.args.x c.args.b c.is_open.ensures c.if-is_open.false
