use mathlib.Core.Path.{refl}
use native.Mathlib.Omega.{arith}
use Rattle.values.proofs.Parts.{writing_start, writing-next, writing-done, writing-past}
use Rattle.values.proofs.write_part.Goals as goal

pub loop-i-init : goal.loop-i-init
loop-i-init c = (refl, writing_start)

pub returns-then-k-i : goal.returns-then-k-i
returns-then-k-i c = writing-past c.loop-i.invariant.1 c.if-k-i.true

pub loop-i-preserved : goal.loop-i-preserved
loop-i-preserved c = (omega arith, writing-next c.loop-i.invariant.1 c.loop-i-test.true c.if-k-i.false c.write_word-e.ensures)

pub returns : goal.returns
returns c = writing-done c.loop-i.invariant.1 c.loop-i-test.false
