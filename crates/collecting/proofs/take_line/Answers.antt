use Prim.Native.Nat.{◌-◌}
use native.Mathlib.Omega.{arith}
use Rattle.collecting.proofs.Taking.{going-starts, going-ends, going_less, going_on}
use Rattle.collecting.proofs.take_line.Goals as goal

pub loop-mark-init : goal.loop-mark-init
loop-mark-init c = search (going-starts)

pub next-p-requires : goal.next-p-requires
next-p-requires c = omega arith

pub returns-then-sort-eq0 : goal.returns-then-sort-eq0
returns-then-sort-eq0 c = search (going-ends)

pub loop-mark-smaller : goal.loop-mark-smaller
loop-mark-smaller c = search (going_less)

pub loop-mark-preserved : goal.loop-mark-preserved
loop-mark-preserved c = search (going_on)
