use Prim.Native.Nat.{◌+◌, ◌-◌}
use native.Mathlib.Omega.{arith}
use mathlib.Core.Path.{◌≡◌, sym, ap, ◌∙◌}
use Rattle.plans.specs.Sizes.{grown_by}
use Rattle.plans.proofs.Alike.{grown-past, grown-one}
use Rattle.plans.proofs.grow_by.Goals as goal

pub returns-then-n-gt-ROOM : goal.returns-then-n-gt-ROOM
returns-then-n-gt-ROOM c = sym (grown-past (c.args.times - c.loop-made._made) c.loop-made.n c.args.one c.if-n-gt-ROOM.true) ∙ c.loop-made.invariant

pub loop-made-preserved : goal.loop-made-preserved
loop-made-preserved c = let l = c.loop-made in
    sym (grown-one (c.args.times - l._made) (c.args.times - (l._made + 1)) l.n c.args.one (let h = c.loop-made-test.true in omega arith) c.grow-n.ensures) ∙ l.invariant

pub returns : goal.returns
returns c = let l = c.loop-made in
    let z : c.args.times - l._made ≡ 0 = let h = c.loop-made-test.false in omega arith in
    sym (ap (λ m. grown_by m l.n c.args.one) z) ∙ l.invariant
