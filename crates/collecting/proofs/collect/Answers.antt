use Prim.Native.Nat.{◌-◌}
use native.Mathlib.Omega.{arith}
use Rattle.collecting.proofs.Taking.{text-starts, text-ends, text-on}
use Rattle.collecting.proofs.collect.Goals as goal

pub loop-at-init : goal.loop-at-init
loop-at-init c = search (text-starts)

pub take_line-end-requires : goal.take_line-end-requires
take_line-end-requires c = (c.loop-at.invariant.high, c.loop-at.invariant.shelves)

pub returns-then-text-end : goal.returns-then-text-end
returns-then-text-end c = search (text-ends)

pub overflow_add-at : goal.overflow_add-at
overflow_add-at c = omega arith

pub loop-at-smaller : goal.loop-at-smaller
loop-at-smaller c = omega arith

pub loop-at-preserved : goal.loop-at-preserved
loop-at-preserved c = search (text-on)
