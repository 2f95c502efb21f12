use Rattle.results.proofs.Replaced.{each_step, each_none}
use Rattle.slices.proofs.Still.{still-all, still-none, still-fits, still-run}
use Rattle.results.proofs.emptying.empty_each.Goals as goal

pub empty_one-e-requires : goal.empty_one-e-requires
empty_one-e-requires c = still-fits c.loop-i.invariant (each_step c.within-end.ensures _ c.loop-i-test.true)

pub loop-i-preserved : goal.loop-i-preserved
loop-i-preserved c = still-run c.loop-i.invariant (each_step c.within-end.ensures _ c.loop-i-test.true) c.empty_one-e.ensures

pub returns : goal.returns
returns c = still-none c.loop-i.invariant (each_none c.within-end.ensures _ c.loop-i-test.false)

pub loop-i-init : goal.loop-i-init
loop-i-init c = still-all _ _ _ c.requires
