use native.Mathlib.Omega.{arith}
use mathlib.Core.Path.{refl, ◌∙◌}
use lib.ListN.{length-set}
use Rattle.clash.proofs.Going.{walks-first, walks_more, gone_long, gone-all}
use Rattle.clash.proofs.walking.walk_on.Goals as goal

pub loop-i-init : goal.loop-i-init
loop-i-init c = (walks-first c.requires.1, refl)

pub returns-then-met-gt-PAIRS : goal.returns-then-met-gt-PAIRS
returns-then-met-gt-PAIRS c = (gone_long c.loop-i.invariant.0 c.if-met-gt-PAIRS.true, c.loop-i.invariant.1 ∙ c.requires.2)

pub bounds-met-i : goal.bounds-met-i
bounds-met-i c = let f = c.loop-i.met.chained.few in let l = c.loop-i-test.true in omega arith

pub bounds-met-i-in-loop-i : goal.bounds-met-i-in-loop-i
bounds-met-i-in-loop-i c = let f = c.loop-i.met.chained.few in let l = c.loop-i-test.true in omega arith

pub bounds-empty-i : goal.bounds-empty-i
bounds-empty-i c = let f = c.loop-i.met.chained.few in let l = c.loop-i-test.true in omega arith

pub overflow_add-i : goal.overflow_add-i
overflow_add-i c = let f = c.loop-i.met.chained.few in let l = c.loop-i-test.true in omega arith

pub loop-i-smaller : goal.loop-i-smaller
loop-i-smaller c = let f = c.loop-i.met.chained.few in let l = c.loop-i-test.true in omega arith

pub loop-i-preserved : goal.loop-i-preserved
loop-i-preserved c = let f = c.loop-i.met.chained.few in let l = c.loop-i-test.true in let e = c.loop-i.invariant.1 in let p = c.requires.2 in (walks_more c.loop-i.invariant.0 l c.from-a.ensures c.from-b.ensures c.go_on.ensures (omega arith), length-set c.loop-i.empty _ _ ∙ e)

pub returns : goal.returns
returns c = (gone-all c.loop-i.invariant.0 c.loop-i-test.false, c.loop-i.invariant.1 ∙ c.requires.2)
