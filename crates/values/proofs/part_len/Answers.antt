use native.Mathlib.Omega.{arith}
use Rattle.values.proofs.Parts.{count-start, count_room, count_next, count-done, count_past}
use Rattle.values.proofs.part_len.Goals as goal

pub loop-i-init : goal.loop-i-init
loop-i-init c = count-start

pub returns-then-k-i : goal.returns-then-k-i
returns-then-k-i c = count_past c.loop-i.invariant c.requires c.if-k-i.true

pub overflow_add-n : goal.overflow_add-n
overflow_add-n c = let r = count_room c.loop-i.invariant c.requires c.if-k-i.false c.word_len-n.ensures in omega arith

pub loop-i-preserved : goal.loop-i-preserved
loop-i-preserved c = count_next c.loop-i.invariant c.loop-i-test.true c.if-k-i.false c.word_len-n.ensures c.requires

pub returns : goal.returns
returns c = count-done c.loop-i.invariant c.requires c.loop-i-test.false
