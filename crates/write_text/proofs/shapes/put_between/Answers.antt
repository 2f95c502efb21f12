-- by the test.
use Rattle.write_text.proofs.Shaping.{between-cat, between-alt}
use Rattle.write_text.proofs.shapes.put_between.Goals as goal

pub returns-then-x-eq7001 : goal.returns-then-x-eq7001
returns-then-x-eq7001 c = between-cat _ c.if-x-eq7001.true c.put_four.ensures

pub returns : goal.returns
returns c = between-alt _ c.if-x-eq7001.false c.put_four-2.ensures
