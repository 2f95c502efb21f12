use mathlib.Core.Bool.{not}
use mathlib.Core.Path.{ap}
use Prim.Native.Nat.{◌-◌}
use native.Mathlib.Omega.{arith}
use Rattle.language.specs.Limits.{desk}
use Rattle.walking.proofs.Elements.{going-starts, refuses, closes-last, less, deep-less, deep-enough, goes_on_lem}
use Rattle.walking.proofs.brackets.Goals as goal

pub loop-p-init : goal.loop-p-init
loop-p-init c = search (going-starts)

pub next-p-requires : goal.next-p-requires
next-p-requires c = omega arith

pub returns-then-not-is_allowed : goal.returns-then-not-is_allowed
returns-then-not-is_allowed c = refuses desk _ _ _ _ _ c.loop-p.invariant c.next-p.ensures c.role-role.ensures c.is_allowed.ensures (ap not c.if-not-is_allowed.true)

pub put_token-k-requires : goal.put_token-k-requires
put_token-k-requires c = (omega arith, c.loop-p.invariant.shelves)

pub returns-then-is_last : goal.returns-then-is_last
returns-then-is_last c = closes-last desk _ _ _ _ _ c.loop-p.invariant c.next-p.ensures c.role-role.ensures c.is_allowed.ensures (ap not c.if-not-is_allowed.false) c.put_token-k.ensures c.is_last.ensures c.if-is_last.true

pub depth_after-d-requires : goal.depth_after-d-requires
depth_after-d-requires c = (deep-less desk _ _ _ _ _ c.loop-p.invariant c.next-p.ensures c.role-role.ensures c.is_allowed.ensures (ap not c.if-not-is_allowed.false) c.put_token-k.ensures c.is_last.ensures c.if-is_last.false, deep-enough desk _ _ _ _ _ c.loop-p.invariant c.next-p.ensures c.role-role.ensures c.is_allowed.ensures (ap not c.if-not-is_allowed.false) c.put_token-k.ensures c.is_last.ensures c.if-is_last.false)

pub loop-p-smaller : goal.loop-p-smaller
loop-p-smaller c = less desk _ _ _ _ _ c.loop-p.invariant c.next-p.ensures c.role-role.ensures c.is_allowed.ensures (ap not c.if-not-is_allowed.false) c.put_token-k.ensures

pub loop-p-preserved : goal.loop-p-preserved
loop-p-preserved c = goes_on_lem desk _ _ _ _ _ c.loop-p.invariant c.next-p.ensures c.role-role.ensures c.is_allowed.ensures (ap not c.if-not-is_allowed.false) c.put_token-k.ensures c.is_last.ensures c.if-is_last.false c.depth_after-d.ensures c.stage_after-stage.ensures
