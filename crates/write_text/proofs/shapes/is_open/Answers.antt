-- by the tests.
use Rattle.write_text.proofs.Shaping.{opens-under, opens-cat, opens-alt, opens-none}
use Rattle.write_text.proofs.shapes.is_open.Goals as goal

pub returns-then-t-eq3 : goal.returns-then-t-eq3
returns-then-t-eq3 c = opens-under c.args.t c.args.x c.if-t-eq3.true

pub returns-then-x-eq7001 : goal.returns-then-x-eq7001
returns-then-x-eq7001 c = opens-cat c.args.t c.args.x c.if-t-eq3.false c.if-x-eq7001.true

pub returns-then-x-eq7002 : goal.returns-then-x-eq7002
returns-then-x-eq7002 c = opens-alt c.args.t c.args.x c.if-t-eq3.false c.if-x-eq7002.true

pub returns : goal.returns
returns c = opens-none c.args.t c.args.x c.if-t-eq3.false c.if-x-eq7001.false c.if-x-eq7002.false
