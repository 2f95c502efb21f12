-- `any_order::place` and `any_order::attempt` call one another. The measure is what is left of the kinds, and of the first the terms that are left.
use Prim.Native.Nat.{◌+◌, ◌-◌, ◌*◌}
use Rattle.any_order.proofs.Placing.{Loop}
use Rattle.any_order.proofs.+attempt_place.Given as goal

abbrev pub decreases-attempt : goal.decreases-attempt
decreases-attempt l = 2 * ((l.top - l.kind) * 65536 + l.times)

abbrev pub decreases-place : goal.decreases-place
decreases-place l = 2 * ((l.top - l.kind) * 65536 + l.times) + 1

abbrev pub invariant-place-loop-i : goal.invariant-place-loop-i
invariant-place-loop-i l = Loop l.e l.at l.w l.initial.c l.c l.l l.kind l.times l.floor l.top l.i
