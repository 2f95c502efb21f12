use mathlib.Core.Path.{ap, subst}
use native.Mathlib.Omega.{arith}
use Rattle.frames.specs.Frames.{in_frames}
use Rattle.plans.specs.Sizes.{Short}
use Rattle.slices.proofs.Still.{Still, still-all, still-none, still-fits, still-run}
use Rattle.results.proofs.Results.{alike, alike_all, alike-none, alike-split, alike-short, alike-few}
use Rattle.results.proofs.write_alike.Goals as goal

pub loop-i-init : goal.loop-i-init
loop-i-init c = let a = c.args in
    let z = alike_all a.k.now a.r a.times in
    (subst (λ ws. Still a.out.now a.at (in_frames a.number (alike a.k.now a.r 0 a.times)) a.out.now a.at (in_frames a.number ws)) z (still-all _ _ _ c.requires.room), subst Short z c.requires.short)

pub write_framed-e-requires : goal.write_framed-e-requires
write_framed-e-requires c = let a = c.args in
    let h = c.loop-i-test.true in
    let f = alike-few a.k.now a.r a.number a.times 0 in
    let l = c.requires.low in
    ((alike-short a.k.now a.r c.loop-i.i a.times h c.loop-i.invariant.1).0, still-fits c.loop-i.invariant.0 (alike-split a.k.now a.r c.loop-i.i a.times h a.number), omega arith)

pub loop-i-preserved : goal.loop-i-preserved
loop-i-preserved c = let a = c.args in
    let h = c.loop-i-test.true in
    (still-run c.loop-i.invariant.0 (alike-split a.k.now a.r c.loop-i.i a.times h a.number) c.write_framed-e.ensures, (alike-short a.k.now a.r c.loop-i.i a.times h c.loop-i.invariant.1).1)

pub returns : goal.returns
returns c = let a = c.args in still-none c.loop-i.invariant.0 (ap (in_frames a.number) (alike-none a.k.now a.r c.loop-i.i a.times c.loop-i-test.false))
