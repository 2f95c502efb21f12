use native.Mathlib.Omega.{arith}
use Rattle.line_example.proofs.Rows.{named-numbered, summed-start, summed-next, summed-done}
use Rattle.line_example.proofs.sorts.values_len.Goals as goal

pub loop-j-init : goal.loop-j-init
loop-j-init c = summed-start

pub value_len-n-requires : goal.value_len-n-requires
value_len-n-requires c = let p = c.requires in (p.0, p.2, named-numbered c.args.of c.loop-j-test.true p.1 c.numbered.ensures)

pub overflow_add-n : goal.overflow_add-n
overflow_add-n c = let f = c.loop-j.invariant.few in let g = c.value_len-n.ensures.few in omega arith

pub loop-j-preserved : goal.loop-j-preserved
loop-j-preserved c = let p = c.requires.1 in let t = c.loop-j-test.true in summed-next c.loop-j.invariant (c.numbered.ensures (omega arith)) t c.value_len-n.ensures

pub returns : goal.returns
returns c = summed-done c.loop-j.invariant c.requires.1 c.loop-j-test.false
