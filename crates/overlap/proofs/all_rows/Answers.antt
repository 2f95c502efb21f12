use Rattle.overlap.proofs.Tabling.{tabling-starts, tabling-rule, tabling-behind, tabling-room, tabling-on, tabling-ends}
use native.Mathlib.Omega.{arith}
use Rattle.overlap.proofs.all_rows.Goals as goal

pub rule_end-next-requires : goal.rule_end-next-requires
rule_end-next-requires c = let x = tabling-rule _ _ _ _ _ _ _ _ _ c.loop-k.invariant (omega arith) in let h = x.header in omega arith

pub rows-at-requires : goal.rows-at-requires
rows-at-requires c = let x = tabling-rule _ _ _ _ _ _ _ _ _ c.loop-k.invariant (omega arith) in (x.whole, tabling-behind _ _ _ _ _ _ _ _ _ c.loop-k.invariant (omega arith) _ c.rule_end-next.ensures, tabling-room _ _ _ _ _ _ _ _ _ c.loop-k.invariant (omega arith) c.requires.1)

pub loop-k-preserved : goal.loop-k-preserved
loop-k-preserved c = tabling-on _ _ _ _ _ _ _ _ _ c.loop-k.invariant (omega arith) _ _ _ c.rule_end-next.ensures c.rows-at.ensures.0 c.rows-at.ensures.1

pub loop-k-init : goal.loop-k-init
loop-k-init c = tabling-starts _ _ _ _ _ c.requires.0

pub returns : goal.returns
returns c = tabling-ends _ _ _ _ _ _ _ _ _ c.loop-k.invariant (omega arith)
