use Prim.Native.Nat.{◌-◌}
use native.Mathlib.Omega.{arith}
use Rattle.language.specs.Limits.{desk}
use Rattle.shapes.proofs.Actions.{end-small}
use Rattle.shapes.proofs.Loop.{going-starts, ends-here, refuses, deep-less, deep-enough, less, goes_on}
use Rattle.shapes.proofs.shape.Goals as goal

pub loop-p-init : goal.loop-p-init
loop-p-init c = search (going-starts)

pub next-p-requires : goal.next-p-requires
next-p-requires c = omega arith

pub count-requires : goal.count-requires
count-requires c = (omega arith, end-small _ c.words_at_end.ensures)

pub returns-then-is_end : goal.returns-then-is_end
returns-then-is_end c = ends-here desk _ _ c.loop-p.invariant c.next-p.ensures c.action-a.ensures c.is_end.ensures c.if-is_end.true c.words_at_end.ensures c.count.ensures

pub returns-then-is_refused : goal.returns-then-is_refused
returns-then-is_refused c = refuses desk _ _ c.loop-p.invariant c.next-p.ensures c.action-a.ensures c.is_end.ensures c.if-is_end.false c.is_refused.ensures c.if-is_refused.true

pub count-n-requires : goal.count-n-requires
count-n-requires c = (omega arith, omega arith)

pub depth_by-d-requires : goal.depth_by-d-requires
depth_by-d-requires c = (deep-less desk _ _ c.loop-p.invariant c.next-p.ensures c.action-a.ensures c.is_end.ensures c.if-is_end.false c.is_refused.ensures c.if-is_refused.false, deep-enough desk _ _ c.loop-p.invariant c.next-p.ensures c.action-a.ensures c.is_end.ensures c.if-is_end.false c.is_refused.ensures c.if-is_refused.false)

pub loop-p-smaller : goal.loop-p-smaller
loop-p-smaller c = less desk _ _ c.loop-p.invariant c.next-p.ensures c.action-a.ensures c.is_end.ensures c.if-is_end.false c.is_refused.ensures c.if-is_refused.false

pub loop-p-preserved : goal.loop-p-preserved
loop-p-preserved c = goes_on desk _ _ c.loop-p.invariant c.next-p.ensures c.action-a.ensures c.is_end.ensures c.if-is_end.false c.is_refused.ensures c.if-is_refused.false c.count-n.ensures c.depth_by-d.ensures c.stage_behind-stage.ensures
