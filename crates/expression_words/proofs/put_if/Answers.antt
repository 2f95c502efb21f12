-- `expression_words::put_if` meets its contract: no word, or one right before the others.
use mathlib.Core.Bool.{not}
use mathlib.Core.Path.{ap}
use native.Mathlib.Omega.{arith}
use Rattle.expression_words.proofs.Laying.{laid-not, laid_one, one_at}
use Rattle.expression_words.proofs.put_if.Goals as goal

pub returns-then-not-yes : goal.returns-then-not-yes
returns-then-not-yes c = search (laid-not, ap not c.if-not-yes.true)

pub overflow_sub-to : goal.overflow_sub-to
overflow_sub-to c = one_at c.args.yes (ap not c.if-not-yes.false) c.requires.0

pub offset_bounds-room-to : goal.offset_bounds-room-to
offset_bounds-room-to c = omega (arith, one_at c.args.yes (ap not c.if-not-yes.false) c.requires.0)

pub returns : goal.returns
returns c = search (laid_one, ap not c.if-not-yes.false)
