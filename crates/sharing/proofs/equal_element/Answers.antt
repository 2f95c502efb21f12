use native.Mathlib.Omega.{arith}
use borrow.Author.Rules.{rules}
use Rattle.sharing.proofs.Walks.{goes_on, still-start, still-found, still-over, still-on, equal_over, equal-here, equal-on}
use Rattle.sharing.proofs.equal_element.Goals as goal

pub same_element-requires : goal.same_element-requires
same_element-requires c = let z = goes_on c.args.k.now c.loop-x.i c.loop-x.invariant.0 c.element_end-e.ensures c.loop-x-test.true in search rules

pub returns-then-same_element : goal.returns-then-same_element
returns-then-same_element c = let z = goes_on c.args.k.now c.loop-x.i c.loop-x.invariant.0 c.element_end-e.ensures c.loop-x-test.true in
    still-found z.1 (equal-here _ _ _ c.loop-x.invariant.0 c.loop-x-test.true c.element_end-e.ensures c.same_element.ensures c.if-same_element.true) c.loop-x.invariant.1

pub loop-x-smaller : goal.loop-x-smaller
loop-x-smaller c = let z = goes_on c.args.k.now c.loop-x.i c.loop-x.invariant.0 c.element_end-e.ensures c.loop-x-test.true in omega arith

pub loop-x-preserved : goal.loop-x-preserved
loop-x-preserved c = let z = goes_on c.args.k.now c.loop-x.i c.loop-x.invariant.0 c.element_end-e.ensures c.loop-x-test.true in
    (c.word-x-in-loop-x.ensures, still-on z.1 z.0 (equal-on _ _ _ c.loop-x.invariant.0 c.loop-x-test.true c.element_end-e.ensures c.same_element.ensures c.if-same_element.false) c.loop-x.invariant.1)

pub returns : goal.returns
returns c = still-over (equal_over _ _ _ c.loop-x.invariant.0 c.loop-x-test.false) c.loop-x.invariant.1

pub loop-x-init : goal.loop-x-init
loop-x-init c = (c.word-x.ensures, still-start)
