use Rattle.frames.specs.Frames.{in_frames}
use Prim.Native.Nat.{◌+◌, ◌-◌}
use mathlib.Core.Path.{refl, ap, subst}
use Rattle.plans.specs.Sizes.{Short}
use Rattle.slices.proofs.Still.{Still, still-all, still-none, still-fits, still-run}
use Rattle.results.proofs.Results.{cuts, cuts_all, cuts-none, cuts-split, cuts-short}
use native.Mathlib.Omega.{arith}
use Rattle.results.proofs.write_cuts.Goals as goal

pub loop-done-init : goal.loop-done-init
loop-done-init c = let a = c.args in
    let z = cuts_all a.k.now a.r a.times a.cut in
    (subst (λ ws. Still a.out.now a.at (in_frames a.number (cuts a.k.now a.r a.times a.cut)) a.out.now a.at (in_frames a.number ws)) z (still-all _ _ _ c.requires.room), subst Short z c.requires.short)

pub write_framed-e-requires : goal.write_framed-e-requires
write_framed-e-requires c = let a = c.args in (
  (cuts-short a.k.now a.r (a.times - c.loop-done._done) c.loop-done.c (a.times - (c.loop-done._done + 1)) (let h = c.loop-done-test.true in omega arith) _ refl c.loop-done.invariant.1).0,
  still-fits c.loop-done.invariant.0 (cuts-split a.k.now a.r (a.times - c.loop-done._done) c.loop-done.c (a.times - (c.loop-done._done + 1)) (let h = c.loop-done-test.true in omega arith) _ refl a.number),
  omega arith,
)

pub loop-done-preserved : goal.loop-done-preserved
loop-done-preserved c = let a = c.args in (
  still-run c.loop-done.invariant.0 (cuts-split a.k.now a.r (a.times - c.loop-done._done) c.loop-done.c (a.times - (c.loop-done._done + 1)) (let h = c.loop-done-test.true in omega arith) _ c.element_end-c.ensures a.number) c.write_framed-e.ensures,
  (cuts-short a.k.now a.r (a.times - c.loop-done._done) c.loop-done.c (a.times - (c.loop-done._done + 1)) (let h = c.loop-done-test.true in omega arith) _ c.element_end-c.ensures c.loop-done.invariant.1).1,
)

pub returns : goal.returns
returns c = let a = c.args in still-none c.loop-done.invariant.0 (ap (in_frames a.number) (cuts-none a.k.now a.r (a.times - c.loop-done._done) c.loop-done.c (let h = c.loop-done-test.false in omega arith)))
