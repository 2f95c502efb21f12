use native.Mathlib.Omega.{arith}
use borrow.Author.Rules.{rules}
use Rattle.sharing.specs.Shared.{first_shared}
use Rattle.sharing.proofs.Walks.{goes_on, still-start, still-found, still-over, still-on, shared-over, shared-here, shared-on}
use Rattle.sharing.proofs.first_shared.Goals as goal

pub equal_element-p-requires : goal.equal_element-p-requires
equal_element-p-requires c = let z = goes_on c.args.k.now c.loop-x.i c.loop-x.invariant.0 c.element_end-e.ensures c.loop-x-test.true in search rules

pub returns-then-p-k : goal.returns-then-p-k
unfolding first_shared
returns-then-p-k c = let z = goes_on c.args.k.now c.loop-x.i c.loop-x.invariant.0 c.element_end-e.ensures c.loop-x-test.true in
    still-found z.1 (shared-here _ _ _ c.loop-x.invariant.0 c.loop-x-test.true c.element_end-e.ensures c.equal_element-p.ensures c.if-p-k.true c.element_end-q.ensures) c.loop-x.invariant.1

pub loop-x-smaller : goal.loop-x-smaller
loop-x-smaller c = let z = goes_on c.args.k.now c.loop-x.i c.loop-x.invariant.0 c.element_end-e.ensures c.loop-x-test.true in omega arith

pub loop-x-preserved : goal.loop-x-preserved
loop-x-preserved c = let z = goes_on c.args.k.now c.loop-x.i c.loop-x.invariant.0 c.element_end-e.ensures c.loop-x-test.true in
    (c.word-x-in-loop-x.ensures, still-on z.1 z.0 (shared-on _ _ _ c.loop-x.invariant.0 c.loop-x-test.true c.element_end-e.ensures c.equal_element-p.ensures (omega arith)) c.loop-x.invariant.1)

pub returns : goal.returns
unfolding first_shared
returns c = still-over (shared-over _ _ _ c.loop-x.invariant.0 c.loop-x-test.false) c.loop-x.invariant.1

pub loop-x-init : goal.loop-x-init
loop-x-init c = (c.word-x.ensures, still-start)
