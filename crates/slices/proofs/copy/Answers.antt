use Prim.Native.Nat.{◌-◌}
use Rattle.slices.proofs.Parts.{part_step, part_none}
use Rattle.slices.proofs.Still.{still-all, still-none, still-fits, still-run, wrote-word}
use native.Mathlib.Omega.{arith}
use Rattle.slices.proofs.copy.Goals as goal

pub bounds-out-e : goal.bounds-out-e
bounds-out-e c = let z = still-fits c.loop-i.invariant (part_step c.within-end.ensures _ c.loop-i-test.true) in omega arith

pub loop-i-preserved : goal.loop-i-preserved
loop-i-preserved c = still-run c.loop-i.invariant (part_step c.within-end.ensures _ c.loop-i-test.true) (wrote-word _ _ _)

pub returns : goal.returns
returns c = still-none c.loop-i.invariant (part_none c.within-end.ensures _ c.loop-i-test.false)

pub loop-i-init : goal.loop-i-init
loop-i-init c = still-all _ _ _ c.requires
