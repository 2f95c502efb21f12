use Prim.Native.Nat.{ℕ, ◌+◌}
use mathlib.Core.Bool.{not}
use mathlib.Core.Path.{ap}
use native.Mathlib.Omega.{arith}
use borrow.Author.Rules.{rules}
use lib.ListN.{get_or, length-set}
use Rattle.any_order.proofs.Placing.{few-of, ready_read, ready-bound, ready-lt, ready-some, ready-room, ready_on, on-less, bumped-one, restored, attempted, placed-top, loop-starts, loop-passed, loop-failed, loop-stuck, loop-found, loop-place, loop-none}
use Rattle.any_order.proofs.+attempt_place.Goals as goal

pub attempt-offset_bounds-c-p : goal.attempt-offset_bounds-c-p
attempt-offset_bounds-c-p t c = omega arith

pub attempt-bounds-c-p : goal.attempt-bounds-c-p
attempt-bounds-c-p t c = omega arith

pub attempt-overflow_add-c : goal.attempt-overflow_add-c
attempt-overflow_add-c t c = omega (arith, ready-room c.args.p c.requires.ready c.requires.kind_lt_top)

pub attempt-bounds-c-p-2 : goal.attempt-bounds-c-p-2
attempt-bounds-c-p-2 t c = omega arith

pub attempt-overflow_sub-times : goal.attempt-overflow_sub-times
attempt-overflow_sub-times t c = omega (arith, c.requires.ready.some c.requires.kind_lt_top)

pub attempt-after-n-requires : goal.attempt-after-n-requires
attempt-after-n-requires t c = search (ready-some)

pub attempt-place-yes-requires : goal.attempt-place-yes-requires
attempt-place-yes-requires t c = (search (on-less), (search rules, (omega arith, (omega (arith, length-set {A = ℕ} c.args.c.now c.args.p (get_or c.args.c.now c.args.p 0 + 1)), (omega arith, search (ready_on))))))

pub attempt-offset_bounds-c-p-2 : goal.attempt-offset_bounds-c-p-2
attempt-offset_bounds-c-p-2 t c = omega (arith, bumped-one c.args.c.now c.place-yes.ensures.c_unchanged c.requires.p_in_bounds)

pub attempt-bounds-c-p-3 : goal.attempt-bounds-c-p-3
attempt-bounds-c-p-3 t c = omega (arith, bumped-one c.args.c.now c.place-yes.ensures.c_unchanged c.requires.p_in_bounds)

pub attempt-overflow_sub-c : goal.attempt-overflow_sub-c
attempt-overflow_sub-c t c = omega (arith, bumped-one c.args.c.now c.place-yes.ensures.c_unchanged c.requires.p_in_bounds)

pub attempt-bounds-c-p-4 : goal.attempt-bounds-c-p-4
attempt-bounds-c-p-4 t c = omega (arith, bumped-one c.args.c.now c.place-yes.ensures.c_unchanged c.requires.p_in_bounds)

pub attempt-returns : goal.attempt-returns
attempt-returns t c = record {
  attempted = search (attempted);
  c_unchanged = restored c.args.c.now c.place-yes.ensures.c_unchanged c.requires.p_in_bounds;
}

pub place-possible-requires-clause-expression : goal.place-possible-requires-clause-expression
place-possible-requires-clause-expression t c = search rules

pub place-possible-requires-clause-e_len_bound : goal.place-possible-requires-clause-e_len_bound
place-possible-requires-clause-e_len_bound t c = omega arith

pub place-possible-requires-clause-e_in_bounds : goal.place-possible-requires-clause-e_in_bounds
place-possible-requires-clause-e_in_bounds t c = omega arith

pub place-possible-requires-clause-e_in_bounds_2 : goal.place-possible-requires-clause-e_in_bounds_2
place-possible-requires-clause-e_in_bounds_2 t c = omega arith

pub place-possible-requires-clause-few : goal.place-possible-requires-clause-few
place-possible-requires-clause-few t c = search (few-of)

pub place-possible-requires-clause-kind_bound : goal.place-possible-requires-clause-kind_bound
place-possible-requires-clause-kind_bound t c = omega (arith, ready-bound)

pub place-returns-then-kind-top-clause-placed : goal.place-returns-then-kind-top-clause-placed
place-returns-then-kind-top-clause-placed t c = search (placed-top)

pub place-overflow_add-end : goal.place-overflow_add-end
place-overflow_add-end t c = omega (arith, ready_read c.requires.ready c.if-kind-top.false)

pub place-overflow_add-kind : goal.place-overflow_add-kind
place-overflow_add-kind t c = omega (arith, ready_read c.requires.ready c.if-kind-top.false)

pub place-offset_bounds-w-kind : goal.place-offset_bounds-w-kind
place-offset_bounds-w-kind t c = omega (arith, ready_read c.requires.ready c.if-kind-top.false)

pub place-bounds-w-kind : goal.place-bounds-w-kind
place-bounds-w-kind t c = omega (arith, ready_read c.requires.ready c.if-kind-top.false)

pub place-overflow_add-end-2 : goal.place-overflow_add-end-2
place-overflow_add-end-2 t c = omega (arith, ready_read c.requires.ready c.if-kind-top.false)

pub place-overflow_step-i : goal.place-overflow_step-i
place-overflow_step-i t c = omega (arith, ready_read c.requires.ready c.if-kind-top.false)

pub place-loop-i-init : goal.place-loop-i-init
place-loop-i-init t c = search (loop-starts)

pub place-offset_bounds-w-i : goal.place-offset_bounds-w-i
place-offset_bounds-w-i t c = omega (arith, ready_read c.requires.ready c.if-kind-top.false)

pub place-bounds-w-i : goal.place-bounds-w-i
place-bounds-w-i t c = omega (arith, ready_read c.requires.ready c.if-kind-top.false)

pub place-loop-i-preserved-then-p-floor : goal.place-loop-i-preserved-then-p-floor
place-loop-i-preserved-then-p-floor t c = search (loop-passed)

pub place-possible-requires-in-loop-i-clause-expression : goal.place-possible-requires-in-loop-i-clause-expression
place-possible-requires-in-loop-i-clause-expression t c = search rules

pub place-possible-requires-in-loop-i-clause-e_len_bound : goal.place-possible-requires-in-loop-i-clause-e_len_bound
place-possible-requires-in-loop-i-clause-e_len_bound t c = omega arith

pub place-possible-requires-in-loop-i-clause-e_in_bounds : goal.place-possible-requires-in-loop-i-clause-e_in_bounds
place-possible-requires-in-loop-i-clause-e_in_bounds t c = omega (arith, c.loop-i.invariant.long)

pub place-possible-requires-in-loop-i-clause-e_in_bounds_2 : goal.place-possible-requires-in-loop-i-clause-e_in_bounds_2
place-possible-requires-in-loop-i-clause-e_in_bounds_2 t c = omega arith

pub place-possible-requires-in-loop-i-clause-few : goal.place-possible-requires-in-loop-i-clause-few
place-possible-requires-in-loop-i-clause-few t c = few-of c.loop-i.invariant.ready

pub place-possible-requires-in-loop-i-clause-kind_bound : goal.place-possible-requires-in-loop-i-clause-kind_bound
place-possible-requires-in-loop-i-clause-kind_bound t c = omega (arith, ready_read c.requires.ready c.if-kind-top.false)

pub place-returns-then-not-possible-clause-placed : goal.place-returns-then-not-possible-clause-placed
place-returns-then-not-possible-clause-placed t c = (loop-stuck c.wide-p.ensures c.loop-i.invariant c.wide.ensures c.loop-i-test.true c.if-kind-top.false c.possible-in-loop-i.ensures (ap not c.if-not-possible.true)).0

pub place-returns-then-not-possible-clause-c_unchanged : goal.place-returns-then-not-possible-clause-c_unchanged
place-returns-then-not-possible-clause-c_unchanged t c = (loop-stuck c.wide-p.ensures c.loop-i.invariant c.wide.ensures c.loop-i-test.true c.if-kind-top.false c.possible-in-loop-i.ensures (ap not c.if-not-possible.true)).1

pub place-attempt-requires : goal.place-attempt-requires
place-attempt-requires t c = (omega arith, (search rules, (omega arith, (omega (arith, c.loop-i.invariant.long), (omega arith, (c.loop-i.invariant.ready, (ready-lt c.requires.ready c.if-kind-top.false, loop-place c.wide-p.ensures c.loop-i.invariant c.wide.ensures c.loop-i-test.true c.if-kind-top.false)))))))

pub place-returns-then-attempt-clause-placed : goal.place-returns-then-attempt-clause-placed
place-returns-then-attempt-clause-placed t c = (loop-found c.wide-p.ensures c.loop-i.invariant c.wide.ensures c.loop-i-test.true c.if-kind-top.false c.if-p-floor.false c.attempt.ensures.attempted c.attempt.ensures.c_unchanged c.if-attempt.true).0

pub place-returns-then-attempt-clause-c_unchanged : goal.place-returns-then-attempt-clause-c_unchanged
place-returns-then-attempt-clause-c_unchanged t c = (loop-found c.wide-p.ensures c.loop-i.invariant c.wide.ensures c.loop-i-test.true c.if-kind-top.false c.if-p-floor.false c.attempt.ensures.attempted c.attempt.ensures.c_unchanged c.if-attempt.true).1

pub place-loop-i-preserved : goal.place-loop-i-preserved
place-loop-i-preserved t c = loop-failed c.wide-p.ensures c.loop-i.invariant c.attempt.ensures.attempted c.if-attempt.false c.attempt.ensures.c_unchanged

pub place-returns-clause-placed : goal.place-returns-clause-placed
place-returns-clause-placed t c = (loop-none c.loop-i.invariant c.wide.ensures c.loop-i-test.false c.if-kind-top.false).0

pub place-returns-clause-c_unchanged : goal.place-returns-clause-c_unchanged
place-returns-clause-c_unchanged t c = (loop-none c.loop-i.invariant c.wide.ensures c.loop-i-test.false c.if-kind-top.false).1
