use Rattle.write_text.proofs.Counting.{counting-on, out_of_order, too_few, enough}
use mathlib.Core.Path.{refl}
use native.Mathlib.Omega.{arith}
use Rattle.write_text.proofs.numbers.are_counted.Goals as goal

pub after_word-m-requires : goal.after_word-m-requires
after_word-m-requires c = (c.loop-i.invariant.small, c.requires)

pub returns-then-m-gt1000 : goal.returns-then-m-gt1000
returns-then-m-gt1000 c = out_of_order c.loop-i.invariant c.args.least c.args.declared (omega arith) c.after_word-m.ensures c.if-m-gt1000.true

pub loop-i-preserved : goal.loop-i-preserved
loop-i-preserved c = counting-on c.loop-i.invariant (omega arith) c.after_word-m.ensures c.if-m-gt1000.false

pub returns-then-n-least : goal.returns-then-n-least
returns-then-n-least c = too_few c.loop-i.invariant c.args.least c.args.declared (omega arith) c.if-n-least.true

pub returns : goal.returns
returns c = enough c.loop-i.invariant c.args.least c.args.declared (omega arith) c.if-n-least.false

pub loop-i-init : goal.loop-i-init
loop-i-init c = record { small = omega arith; left = refl }
