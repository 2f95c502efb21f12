use lib.Seq.{slice}
use native.Mathlib.Omega.{arith}
use Rattle.slices.proofs.Still.{still-all, still-none, still-fits, still-run, wrote-word}
use Rattle.orders.proofs.Renamed.{length-renamed, rename-step, rename-none}
use Rattle.renaming.proofs.rename.Goals as goal

pub loop-i-init : goal.loop-i-init
loop-i-init c = let p = c.requires in let l = length-renamed c.args.old c.args.new (slice c.args.from c.args.to c.args.k.now) in still-all _ _ _ (omega arith)

pub bounds-out-e : goal.bounds-out-e
bounds-out-e c = let z = still-fits c.loop-i.invariant (rename-step c.within-end.ensures _ _ _ c.loop-i-test.true c.rename_word.ensures) in omega arith

pub loop-i-preserved : goal.loop-i-preserved
loop-i-preserved c = still-run c.loop-i.invariant (rename-step c.within-end.ensures _ _ _ c.loop-i-test.true c.rename_word.ensures) (wrote-word _ _ _)

pub returns : goal.returns
returns c = still-none c.loop-i.invariant (rename-none c.within-end.ensures _ _ _ c.loop-i-test.false)
