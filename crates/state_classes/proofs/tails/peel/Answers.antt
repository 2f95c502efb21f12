use native.Mathlib.Omega.{arith}
use mathlib.Core.Path.{sym, ◌∙◌}
use Rattle.state_classes.proofs.Peeling.{goes-start, goes-second, goes_first, peeled-past, peeled-symbol, peeled-star, peeled-join}
use Rattle.state_classes.proofs.tails.peel.Goals as goal

pub returns-then-w-lt7000 : goal.returns-then-w-lt7000
returns-then-w-lt7000 c = peeled-symbol c.loop-x.invariant c.if-w-lt7000.true

pub returns-then-w-eq7003 : goal.returns-then-w-eq7003
returns-then-w-eq7003 c = peeled-star c.loop-x.invariant c.loop-x-test.true c.if-w-eq7003.true

pub loop-x-smaller-then-mid-p : goal.loop-x-smaller-then-mid-p
loop-x-smaller-then-mid-p c = let z = c.part-a.ensures.after in omega arith

pub loop-x-preserved-then-mid-p : goal.loop-x-preserved-then-mid-p
loop-x-preserved-then-mid-p c = goes-second c.loop-x.invariant c.part-a.ensures c.if-w-lt7000.false c.if-w-eq7003.false c.if-mid-p.true

pub returns-then-adds : goal.returns-then-adds
returns-then-adds c = peeled-join c.loop-x.invariant c.part-a.ensures c.if-w-lt7000.false c.if-w-eq7003.false c.if-mid-p.false c.part-b.ensures c.loop-x-test.true (sym c.adds.ensures ∙ c.if-adds.true)

pub loop-x-preserved : goal.loop-x-preserved
loop-x-preserved c = goes_first c.loop-x.invariant c.part-a.ensures c.if-w-lt7000.false c.if-w-eq7003.false c.if-mid-p.false c.part-b.ensures (sym c.adds.ensures ∙ c.if-adds.false)

pub returns : goal.returns
returns c = peeled-past c.loop-x.invariant c.loop-x-test.false

pub loop-x-init : goal.loop-x-init
loop-x-init c = goes-start _ _ _
