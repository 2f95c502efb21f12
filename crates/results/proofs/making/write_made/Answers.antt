use Rattle.plans.specs.Results.{numbered}
use Rattle.slices.proofs.Still.{still-all, still-none, still-fits, still-run}
use Rattle.results.proofs.Made.{bare_step, made_none}
use native.Mathlib.Omega.{arith}
use Rattle.results.proofs.making.write_made.Goals as goal

pub loop-slot-init : goal.loop-slot-init
unfolding numbered
loop-slot-init c = (still-all _ _ _ c.requires.0, omega arith)

pub write_piece-e-requires : goal.write_piece-e-requires
write_piece-e-requires c = let a = c.args in (c.note-m.ensures, still-fits c.loop-slot.invariant.0 (bare_step a.k.now a.r a.cut a.nth _ c.loop-slot-test.true), c.requires.1)

pub loop-slot-preserved : goal.loop-slot-preserved
loop-slot-preserved c = let a = c.args in (still-run c.loop-slot.invariant.0 (bare_step a.k.now a.r a.cut a.nth _ c.loop-slot-test.true) c.write_piece-e.ensures, omega arith)

pub returns : goal.returns
unfolding numbered
returns c = let a = c.args in still-none c.loop-slot.invariant.0 (made_none a.k.now a.r a.cut a.nth _ c.loop-slot-test.false)
