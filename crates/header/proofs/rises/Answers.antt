use Prim.Native.Nat.{◌-◌}
use mathlib.Core.Path.{refl, ◌∙◌}
use native.Mathlib.Omega.{arith}
use lib.ListN.{length}
use Rattle.language.proofs.Offsets.{rising-done, rising-falls, rising-on}
use Rattle.header.proofs.rises.Goals as goal

pub loop-i-init : goal.loop-i-init
loop-i-init c = refl

pub returns-then-next-last : goal.returns-then-next-last
returns-then-next-last c = let a = c.args in
    let l = c.loop-i in
    rising-falls l.i a.stop l.last (length a.w.now) a.w.now (omega arith) (omega arith) _ c.from-next.ensures c.if-next-last.true ∙ l.invariant

pub loop-i-preserved : goal.loop-i-preserved
loop-i-preserved c = let a = c.args in
    let l = c.loop-i in
    rising-on l.i a.stop l.last (length a.w.now) a.w.now (omega arith) (omega arith) _ c.from-next.ensures c.if-next-last.false ∙ l.invariant

pub returns : goal.returns
returns c = let a = c.args in
    let l = c.loop-i in
    rising-done l.i a.stop l.last (length a.w.now) a.w.now (omega arith) ∙ l.invariant
