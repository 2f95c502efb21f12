use native.Mathlib.Omega.{arith}
use Rattle.charts.proofs.Levels.{way-start, way-lower, way-under, way_end, way-past}
use Rattle.charts.proofs.level_of.Goals as goal

pub returns-then-k-x : goal.returns-then-k-x
returns-then-k-x c = way-past c.if-k-x.true c.loop-x.invariant

pub loop-x-preserved-then-k-x-lt7000 : goal.loop-x-preserved-then-k-x-lt7000
loop-x-preserved-then-k-x-lt7000 c = way-under c.loop-x-test.true c.if-k-x.false c.if-k-x-lt7000.true c.loop-x.invariant

pub loop-x-smaller : goal.loop-x-smaller
loop-x-smaller c = let h = c.lower-x.ensures.further in omega arith

pub loop-x-preserved : goal.loop-x-preserved
loop-x-preserved c = way-lower c.loop-x-test.true c.if-k-x.false c.if-k-x-lt7000.false c.lower-x.ensures c.loop-x.invariant

pub returns : goal.returns
returns c = way_end c.loop-x-test.false c.loop-x.invariant

pub loop-x-init : goal.loop-x-init
loop-x-init c = way-start _ _ _
