use Prim.Native.Nat.{◌-◌}
use native.Mathlib.Omega.{arith}
use Rattle.literals.proofs.Walks.{left-starts, left-none, left_less, left-ends}
use Rattle.literals.proofs.literal_place.Goals as goal

pub loop-i-init : goal.loop-i-init
loop-i-init c = λ x f e. left-starts _ x

pub returns-then-left-eq0 : goal.returns-then-left-eq0
returns-then-left-eq0 c = λ x f e. left-none _ _ x f e _ _ (c.loop-i.invariant x f e) c.loop-i-test.true c.if-left-eq0.true

pub loop-i-smaller : goal.loop-i-smaller
loop-i-smaller c = let z = c.next_literal-i.ensures in omega arith

pub loop-i-preserved : goal.loop-i-preserved
loop-i-preserved c = λ x f e. left_less _ _ x f e _ _ (c.loop-i.invariant x f e) c.loop-i-test.true c.if-left-eq0.false _ c.next_literal-i.ensures

pub returns : goal.returns
returns c = λ x f e. left-ends _ _ x f e _ _ (c.loop-i.invariant x f e) c.loop-i-test.false
