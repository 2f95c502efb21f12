use Prim.Native.Nat.{◌+◌}
use mathlib.Core.Path.{refl, sym, subst}
use mathlib.Core.Bool.{true}
use lib.ListN.{set}
use lib.Seq.{slice}
use Rattle.slices.proofs.Parts.{part-cons, part_none}
use Rattle.results.proofs.Marking.{in_place, Marking, none-marked, marking_step, marking-done, not-only}
use native.Mathlib.Omega.{arith}
use Rattle.results.proofs.replacing.note.Goals as goal

pub bounds-k-i : goal.bounds-k-i
bounds-k-i c = let w = c.within-end.ensures.low in omega arith

pub bounds-set-n : goal.bounds-set-n
bounds-set-n c = let w = c.wide-n.ensures in
    let b = in_place _ c.classify.ensures _ c.in-Run.is in
    omega arith

pub loop-i-preserved : goal.loop-i-preserved
loop-i-preserved c = let a = c.args in
    subst (λ n. Marking (set c.loop-i.set n true) (slice (c.loop-i.i + 1) a.to a.k.now) (slice a.from a.to a.k.now)) (sym c.wide-n.ensures)
    (marking_step c.loop-i.invariant _ _ (part-cons c.within-end.ensures _ c.loop-i-test.true) c.classify.ensures _ c.in-Run.is)

pub returns : goal.returns
returns c = marking-done c.loop-i.invariant (part_none c.within-end.ensures _ c.loop-i-test.false)

pub loop-i-init : goal.loop-i-init
loop-i-init c = none-marked _ _ refl refl

pub returns-in_default : goal.returns-in_default
returns-in_default c = not-only _
