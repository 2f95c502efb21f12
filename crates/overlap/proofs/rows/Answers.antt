use Rattle.overlap.proofs.Tabling.{rowing-starts, rowing-rule, rowing-room, rowing-on, rowing-ends}
use native.Mathlib.Omega.{arith}
use Rattle.overlap.proofs.rows.Goals as goal

pub row-requires : goal.row-requires
row-requires c = let x = rowing-rule _ _ _ _ _ _ _ _ _ _ _ _ c.loop-k.invariant (omega arith) in (c.requires.0, x.whole, rowing-room _ _ _ _ _ _ _ _ _ _ _ _ c.loop-k.invariant (omega arith) c.requires.2)

pub rule_end-j-requires : goal.rule_end-j-requires
rule_end-j-requires c = let x = rowing-rule _ _ _ _ _ _ _ _ _ _ _ _ c.loop-k.invariant (omega arith) in let h = x.header in omega arith

pub overflow_add-at : goal.overflow_add-at
overflow_add-at c = let z = rowing-room _ _ _ _ _ _ _ _ _ _ _ _ c.loop-k.invariant (omega arith) c.requires.2 in omega arith

pub overflow_add-at-in-loop-k : goal.overflow_add-at-in-loop-k
overflow_add-at-in-loop-k c = let z = rowing-room _ _ _ _ _ _ _ _ _ _ _ _ c.loop-k.invariant (omega arith) c.requires.2 in omega arith

pub loop-k-preserved : goal.loop-k-preserved
loop-k-preserved c = rowing-on _ _ _ _ _ _ _ _ _ _ _ _ c.loop-k.invariant (omega arith) _ _ c.row.ensures c.rule_end-j.ensures

pub loop-k-init : goal.loop-k-init
loop-k-init c = rowing-starts _ _ _ _ _ _ _ _ c.requires.1

pub returns : goal.returns
returns c = rowing-ends _ _ _ _ _ _ _ _ _ _ _ _ c.loop-k.invariant (omega arith)
