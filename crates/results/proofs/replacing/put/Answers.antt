use Rattle.plans.specs.Results.{changed}
use Rattle.slices.proofs.Still.{still-all, still-none, still-fits, still-run}
use Rattle.results.proofs.Replaced.{put_step, put-none}
use Rattle.results.proofs.replacing.put.Goals as goal

pub loop-i-init : goal.loop-i-init
unfolding changed
loop-i-init c = still-all _ _ _ c.requires.1

pub put_word-e-requires : goal.put_word-e-requires
put_word-e-requires c = (c.requires.0, still-fits c.loop-i.invariant (put_step c.within-end.ensures _ _ _ c.loop-i-test.true))

pub loop-i-preserved : goal.loop-i-preserved
loop-i-preserved c = still-run c.loop-i.invariant (put_step c.within-end.ensures _ _ _ c.loop-i-test.true) c.put_word-e.ensures

pub returns : goal.returns
unfolding changed
returns c = still-none c.loop-i.invariant (put-none c.within-end.ensures _ _ _ c.loop-i-test.false)
