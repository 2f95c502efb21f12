use Prim.Native.Nat.{◌-◌}
use native.Mathlib.Omega.{arith}
use borrow.Author.Rules.{rules}
use Rattle.trying.proofs.Scans.{test-starts, test-here, test-ready, test-fails, test_on, test-ends}
use Rattle.trying.proofs.meets_all.Goals as goal

pub meets_literal-requires : goal.meets_literal-requires
meets_literal-requires c = record {
  fitting_literal = test-ready _ _ _ c.loop-i.invariant c.literal_end-end.ensures (omega arith);
  room_in_bounds = omega (arith, c.loop-i.invariant.keeps.len);
}

pub returns-then-not-meets_literal : goal.returns-then-not-meets_literal
returns-then-not-meets_literal c = test-fails _ _ _ c.loop-i.invariant c.literal_end-end.ensures (omega arith) c.meets_literal.ensures c.if-not-meets_literal.true

pub loop-i-smaller : goal.loop-i-smaller
loop-i-smaller c = let x = test-here _ _ _ c.loop-i.invariant c.literal_end-end.ensures (omega arith) in
    search rules

pub loop-i-preserved : goal.loop-i-preserved
loop-i-preserved c = test_on _ _ _ c.loop-i.invariant c.literal_end-end.ensures (omega arith) c.meets_literal.ensures c.if-not-meets_literal.false

pub loop-i-init : goal.loop-i-init
loop-i-init c = test-starts _ _ _ _ c.requires.fitting_conj

pub returns : goal.returns
returns c = test-ends _ _ _ c.loop-i.invariant (omega arith)

pub slice_bounds-meets_literal-count : goal.slice_bounds-meets_literal-count
slice_bounds-meets_literal-count c = let x = test-here _ _ _ c.loop-i.invariant c.literal_end-end.ensures (omega arith) in
    search rules

pub slice_bounds-meets_literal-start : goal.slice_bounds-meets_literal-start
slice_bounds-meets_literal-start c = let x = test-here _ _ _ c.loop-i.invariant c.literal_end-end.ensures (omega arith) in
    search rules

pub slice_bounds-meets_literal-end : goal.slice_bounds-meets_literal-end
slice_bounds-meets_literal-end c = let x = test-here _ _ _ c.loop-i.invariant c.literal_end-end.ensures (omega arith) in
    search rules
