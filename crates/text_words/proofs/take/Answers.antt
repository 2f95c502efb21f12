-- `text_words::take` meets its contract: no token, no conjunction, a conjunction.
use mathlib.Core.Bool.{not}
use mathlib.Core.Path.{ap}
use Rattle.text_words.proofs.Lines.{took-blank, took-bad, took-line}
use Rattle.text_words.proofs.take.Goals as goal

pub returns-then-not-has : goal.returns-then-not-has
returns-then-not-has c = (took-blank c.args.has c.requires.0.place (ap not c.if-not-has.true))

pub returns-then-not-w : goal.returns-then-not-w
returns-then-not-w c = (took-bad c.args.has c.conjunction-w.ensures (ap not c.if-not-has.false) c.if-not-w.true)

pub returns : goal.returns
returns c = (took-line c.args.has c.conjunction-w.ensures (ap not c.if-not-has.false) c.if-not-w.false c.put_head.ensures)
