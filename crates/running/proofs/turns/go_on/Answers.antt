use mathlib.Core.Path.{refl, ◌∙◌}
use Prim.Native.Nat.{ℕ}
use native.Mathlib.Omega.{arith}
use lib.ListN.{length-replicate}
use Rattle.std.proofs.lemmas.Result.{err_from_is_err_and}
use Rattle.language.specs.Limits.{desk}
use Rattle.counts.proofs.Added.{afresh-none}
use Rattle.running.proofs.Gone.{turn-ready, still-guided, run-over, gone-on, gone-less, gone-stop}
use Rattle.running.proofs.TakenOut.{taken, still-counted, still-long}
use Rattle.running.proofs.turns.go_on.Goals as goal

pub loop-s-init : goal.loop-s-init
loop-s-init c = (refl, refl, refl, (λ old whole old_work old_answer ls w u. record { lines = ls; waits = w; under = u; same = refl }), length-replicate {A = ℕ} desk.question 0, omega arith, afresh-none)

pub take_first-n-requires : goal.take_first-n-requires
take_first-n-requires c = let b = c.requires in
    let r = turn-ready _ _ b.old b.whole b.old_work b.old_answer _ _ _ _ _ (c.loop-s.invariant.3 b.old b.whole b.old_work b.old_answer b.lines b.waits b.under) c.loop-s-test.true in
    let p = r.0 in
    let l = c.loop-s.invariant.4 in
    let m = c.loop-s.invariant.5 in
    record {
      at_in_bounds = (omega arith, omega arith, omega arith, omega arith);
      table_value = c.loop-s.invariant.6;
    }

pub slice_bounds-turn-end : goal.slice_bounds-turn-end
slice_bounds-turn-end c = let b = c.requires in
    let r = turn-ready _ _ b.old b.whole b.old_work b.old_answer _ _ _ _ _ (c.loop-s.invariant.3 b.old b.whole b.old_work b.old_answer b.lines b.waits b.under) c.loop-s-test.true in
    let p = r.0 in
    let l = c.loop-s.invariant.4 in
    let n = c.take_first-n.ensures.value in
    let e = still-long c.loop-s.k _ _ c.loop-s.s c.loop-s.work c.take_first-n.result n (omega arith) (omega arith) c.take_first-n.ensures.k_after c.take_first-n.ensures.table_after in
    omega arith

pub turn-requires-clause-at_bound : goal.turn-requires-clause-at_bound
turn-requires-clause-at_bound c = let b = c.requires in
    let r = turn-ready _ _ b.old b.whole b.old_work b.old_answer _ _ _ _ _ (c.loop-s.invariant.3 b.old b.whole b.old_work b.old_answer b.lines b.waits b.under) c.loop-s-test.true in
    r.0

pub turn-requires-clause-awaits : goal.turn-requires-clause-awaits
turn-requires-clause-awaits c = let b = c.requires in
    let r = turn-ready _ _ b.old b.whole b.old_work b.old_answer _ _ _ _ _ (c.loop-s.invariant.3 b.old b.whole b.old_work b.old_answer b.lines b.waits b.under) c.loop-s-test.true in
    r.1

pub turn-requires-clause-taken : goal.turn-requires-clause-taken
turn-requires-clause-taken c = let b = c.requires in
    let r = turn-ready _ _ b.old b.whole b.old_work b.old_answer _ _ _ _ _ (c.loop-s.invariant.3 b.old b.whole b.old_work b.old_answer b.lines b.waits b.under) c.loop-s-test.true in
    let p = r.0 in
    let l = c.loop-s.invariant.4 in
    taken c.loop-s.k _ _ c.loop-s.s c.loop-s.work c.take_first-n.result c.take_first-n.ensures.value (omega arith) (omega arith) c.take_first-n.ensures.k_after c.take_first-n.ensures.table_after

pub loop-s-smaller : goal.loop-s-smaller
loop-s-smaller c = let b = c.requires in
    gone-less _ _ b.old b.whole b.old_work b.old_answer _ _ _ _ _ (c.loop-s.invariant.3 b.old b.whole b.old_work b.old_answer b.lines b.waits b.under) c.loop-s-test.true _ _ _ _ c.turn.ensures _ c.in_ok-s.was

pub loop-s-preserved : goal.loop-s-preserved
loop-s-preserved c = let b = c.requires in
    let r = turn-ready _ _ b.old b.whole b.old_work b.old_answer _ _ _ _ _ (c.loop-s.invariant.3 b.old b.whole b.old_work b.old_answer b.lines b.waits b.under) c.loop-s-test.true in
    let p = r.0 in
    let l = c.loop-s.invariant.4 in
    let n = c.take_first-n.ensures.value in (
      c.turn.auto.work ∙ c.loop-s.invariant.0,
      c.turn.auto.answer ∙ c.loop-s.invariant.1,
      c.turn.auto.out ∙ c.loop-s.invariant.2,
      (λ old whole old_work old_answer ls w u. gone-on _ _ old whole old_work old_answer _ _ _ _ _ (c.loop-s.invariant.3 old whole old_work old_answer ls w u) c.loop-s-test.true _ _ _ _ c.turn.ensures _ c.in_ok-s.was),
      still-long c.loop-s.k _ _ c.loop-s.s c.loop-s.work c.take_first-n.result n (omega arith) (omega arith) c.take_first-n.ensures.k_after c.take_first-n.ensures.table_after ∙ l,
      omega arith,
      still-counted c.loop-s.k _ _ c.loop-s.s c.loop-s.work c.take_first-n.result n (omega arith) (omega arith) c.take_first-n.ensures.k_after c.take_first-n.ensures.table_after,
    )

pub returns-in_err-s : goal.returns-in_err-s
returns-in_err-s c = λ old whole old_work old_answer ls w u.
    let p = err_from_is_err_and c.from_residual.result c.from_residual.ensures.1 in
    rw (p.1, p.2)
    (gone-stop _ _ old whole old_work old_answer _ _ _ _ _ (c.loop-s.invariant.3 old whole old_work old_answer ls w u) c.loop-s-test.true _ _ _ _ c.turn.ensures _ c.in_err-s.was)

pub finish-requires : goal.finish-requires
finish-requires c = let b = c.requires in still-guided _ _ b.old b.whole b.old_work b.old_answer _ _ _ _ _ (c.loop-s.invariant.3 b.old b.whole b.old_work b.old_answer b.lines b.waits b.under)

pub returns : goal.returns
returns c = λ old whole old_work old_answer ls w u. run-over _ _ old whole old_work old_answer _ _ _ _ _ (c.loop-s.invariant.3 old whole old_work old_answer ls w u) c.loop-s-test.false _ c.finish.ensures
