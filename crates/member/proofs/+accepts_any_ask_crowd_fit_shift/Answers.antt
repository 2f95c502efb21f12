use Prim.Native.Nat.{◌-◌}
use mathlib.Core.Path.{◌∙◌}
use native.Mathlib.Omega.{arith}
use lib.ListN.{get_or}
use Rattle.passing.proofs.Standing.{hedge-lt, term-lt, children, skipped-less, term-here}
use Rattle.any_order.proofs.Standing.{expression-lt, first, second}
use Rattle.member.proofs.Standing.{looked-end, looked-within, symbol-at}
use Rattle.member.proofs.Moves.{keeps-len, sh-eps, sh-no, sh-ask, sh-one, sh-two, shifted_end, shifted-falls}
use Rattle.member.proofs.Runs.{starts, goes_on, ended, children-of}
use Rattle.member.proofs.Asking.{spared-refl, spared-trans, spared-less, scene_on, term-some, next-far, lent-less, lent-on, lent-children, lent-rest, ask-gathers, ask-other, ask-in-order, ask-any-order, symbol-lt, symbol-under, fit-eps, fit-noted, fit-star, fit-two}
use Rattle.member.proofs.Shuffling.{gathered-asks, any-end, gathered-lt, gathered-hedge, gathered-kinds, gathered-spared, gathered-six, gathered-lent, cap-within, cap-lent, gathered-roomy, any_none, any-crowd, any-joined, kinds-countable, gathered-joined}
use Rattle.member.proofs.Joining.{joined-some}
use Rattle.member.proofs.Crowding.{inner-self, inner-expression, inner_first, inner-second, crowd-eps, crowd-no, crowd-yes, gathered-one, crowd-star, crowd-first, crowd-second}
use Rattle.member.proofs.+accepts_any_ask_crowd_fit_shift.Goals as goal

pub accepts-look-l-requires : goal.accepts-look-l-requires
accepts-look-l-requires t c = c.requires.expression

pub accepts-clear-requires-clause-from_le_to : goal.accepts-clear-requires-clause-from_le_to
accepts-clear-requires-clause-from_le_to t c = (looked-within c.look-l.ensures c.requires.expression c.requires.scene.long).0

pub accepts-clear-requires-clause-to_in_bounds : goal.accepts-clear-requires-clause-to_in_bounds
accepts-clear-requires-clause-to_in_bounds t c = (looked-within c.look-l.ensures c.requires.expression c.requires.scene.long).1

pub accepts-loop-j-init : goal.accepts-loop-j-init
accepts-loop-j-init t c = record { going = starts c.requires.hedge c.look-l.ensures c.clear.ensures; spared = spared-refl; lent = c.requires.lent }

pub accepts-offset_bounds-h-j : goal.accepts-offset_bounds-h-j
accepts-offset_bounds-h-j t c = omega (arith, hedge-lt c.loop-j.invariant.going.stands, c.requires.scene.hedge)

pub accepts-bounds-h-j : goal.accepts-bounds-h-j
accepts-bounds-h-j t c = omega (arith, hedge-lt c.loop-j.invariant.going.stands, c.requires.scene.hedge)

pub accepts-shift-t-requires : goal.accepts-shift-t-requires
accepts-shift-t-requires t c = (omega (arith, expression-lt c.requires.expression, c.requires.scene.short), (c.requires.expression, (term-here c.loop-j.invariant.going.stands c.loop-j-test.true, (scene_on c.requires.scene (c.loop-j.invariant.going.beside.len ∙ c.clear.ensures.beside.len), lent-children c.loop-j.invariant.lent c.loop-j-test.true))))

pub accepts-overflow_add-j : goal.accepts-overflow_add-j
accepts-overflow_add-j t c = omega (arith, hedge-lt c.loop-j.invariant.going.stands, c.requires.scene.hedge)

pub accepts-skip-j-requires : goal.accepts-skip-j-requires
accepts-skip-j-requires t c = children c.loop-j.invariant.going.stands c.loop-j-test.true

pub accepts-loop-j-preserved : goal.accepts-loop-j-preserved
accepts-loop-j-preserved t c = record {
  going = goes_on c.loop-j.invariant.going c.loop-j-test.true (looked-end c.look-l.ensures) c.requires.expression c.shift-t.ensures.shifted c.skip-j.ensures;
  spared = spared-trans c.loop-j.invariant.spared c.shift-t.ensures.spared;
  lent = lent-rest (lent-on c.loop-j.invariant.lent c.shift-t.ensures.spared.len) c.loop-j-test.true c.skip-j.ensures;
}

pub accepts-loop-j-smaller : goal.accepts-loop-j-smaller
accepts-loop-j-smaller t c = skipped-less c.skip-j.ensures c.loop-j.invariant.going.stands c.loop-j-test.true

pub accepts-returns : goal.accepts-returns
accepts-returns t c = record {
  spared = c.loop-j.invariant.spared;
  accepted = ended c.clear.ensures c.loop-j.invariant.going c.loop-j-test.false (looked-end c.look-l.ensures);
}

pub any-offset_bounds-h-j : goal.any-offset_bounds-h-j
any-offset_bounds-h-j t c = omega (arith, gathered-lt c.requires.gathered, c.requires.scene.hedge)

pub any-bounds-h-j : goal.any-bounds-h-j
any-bounds-h-j t c = omega (arith, gathered-lt c.requires.gathered, c.requires.scene.hedge)

pub any-some_order-requires : goal.any-some_order-requires
any-some_order-requires t c = record {
  asked = gathered-asks c.requires.expression c.requires.gathered;
  e_len_bound = c.requires.scene.short;
}

pub any-returns-then-h-j-eq0 : goal.any-returns-then-h-j-eq0
any-returns-then-h-j-eq0 t c = any-end c.if-h-j-eq0.true c.some_order.ensures

pub any-overflow_add-j : goal.any-overflow_add-j
any-overflow_add-j t c = omega (arith, gathered-lt c.requires.gathered, c.requires.scene.hedge)

pub any-skip-next-requires : goal.any-skip-next-requires
any-skip-next-requires t c = children (gathered-hedge c.requires.gathered) c.if-h-j-eq0.false

pub any-room-cap-requires : goal.any-room-cap-requires
any-room-cap-requires t c = record {
  hedge = gathered-hedge c.requires.gathered;
  roomy = gathered-roomy c.requires.gathered c.if-h-j-eq0.false;
}

pub any-overflow_add-top : goal.any-overflow_add-top
any-overflow_add-top t c = omega (arith, gathered-six c.requires.gathered c.if-h-j-eq0.false)

pub any-fit-f-requires : goal.any-fit-f-requires
any-fit-f-requires t c = (omega (arith), (c.requires.expression, ((term-here (gathered-hedge c.requires.gathered) c.if-h-j-eq0.false), (c.requires.scene, (cap-lent c.requires.gathered c.if-h-j-eq0.false c.room-cap.ensures.skipped c.room-cap.ensures.is, cap-within c.requires.gathered c.if-h-j-eq0.false c.room-cap.ensures.skipped c.room-cap.ensures.is)))))

pub any-crowd-c-requires : goal.any-crowd-c-requires
any-crowd-c-requires t c = (omega (arith, c.requires.scene.short), (c.requires.expression, (inner-self c.requires.expression, (c.skip-next.ensures, ((term-here (gathered-hedge c.requires.gathered) c.if-h-j-eq0.false), (scene_on c.requires.scene c.fit-f.ensures.beside.len, gathered-spared c.requires.gathered (spared-less c.fit-f.ensures.spared (omega arith))))))))

pub any-returns-then-f : goal.any-returns-then-f
any-returns-then-f t c = any-crowd c.if-h-j-eq0.false c.fit-f.ensures c.crowd-c.ensures

pub any-overflow_add-top-2 : goal.any-overflow_add-top-2
any-overflow_add-top-2 t c = omega (arith, gathered-six c.requires.gathered c.if-h-j-eq0.false)

pub any-returns-then-t-top : goal.any-returns-then-t-top
any-returns-then-t-top t c = any_none c.if-h-j-eq0.false c.fit-f.ensures c.if-f.false c.if-t-top.true

pub any-join-o-requires-clause-kinds : goal.any-join-o-requires-clause-kinds
any-join-o-requires-clause-kinds t c = gathered-kinds (gathered-spared c.requires.gathered (spared-less c.fit-f.ensures.spared (omega arith)))

pub any-join-o-requires-clause-top_bound : goal.any-join-o-requires-clause-top_bound
any-join-o-requires-clause-top_bound t c = (c.fit-f.ensures.within.0, omega (arith, c.fit-f.ensures.within.1, (cap-within c.requires.gathered c.if-h-j-eq0.false c.room-cap.ensures.skipped c.room-cap.ensures.is).1, c.fit-f.ensures.spared.len), omega (arith, c.requires.gathered.bounded, c.fit-f.ensures.spared.len))

pub any-join-o-requires-clause-countable : goal.any-join-o-requires-clause-countable
any-join-o-requires-clause-countable t c = kinds-countable c.requires.expression c.requires.gathered c.if-h-j-eq0.false c.fit-f.ensures c.if-f.false c.skip-next.ensures c.room-cap.ensures.skipped c.room-cap.ensures.is

pub any-any-yes-requires : goal.any-any-yes-requires
any-any-yes-requires t c = (omega (arith, next-far c.skip-next.ensures (term-here (gathered-hedge c.requires.gathered) c.if-h-j-eq0.false)), (c.requires.expression, (scene_on c.requires.scene c.fit-f.ensures.beside.len, gathered-joined c.requires.expression c.requires.gathered c.if-h-j-eq0.false c.fit-f.ensures c.if-f.false c.skip-next.ensures c.room-cap.ensures.skipped c.room-cap.ensures.is c.join-o.ensures)))

pub any-undo-requires : goal.any-undo-requires
any-undo-requires t c = (let six = gathered-six c.requires.gathered c.if-h-j-eq0.false in joined-some c.join-o.ensures c.any-yes.ensures.spared (omega (arith, six, c.fit-f.ensures.spared.len)) (omega (arith, six, c.fit-f.ensures.spared.len)))

pub any-returns : goal.any-returns
any-returns t c = any-joined c.if-h-j-eq0.false c.fit-f.ensures c.if-f.false c.skip-next.ensures (omega (arith, gathered-six c.requires.gathered c.if-h-j-eq0.false)) c.join-o.ensures c.any-yes.ensures c.undo.ensures

pub ask-offset_bounds-e-p : goal.ask-offset_bounds-e-p
ask-offset_bounds-e-p t c = omega (arith, symbol-lt c.requires.symbol, c.requires.scene.short)

pub ask-bounds-e-p : goal.ask-bounds-e-p
ask-bounds-e-p t c = omega (arith, symbol-lt c.requires.symbol, c.requires.scene.short)

pub ask-offset_bounds-h-j : goal.ask-offset_bounds-h-j
ask-offset_bounds-h-j t c = omega (arith, term-lt c.requires.term, c.requires.scene.hedge)

pub ask-bounds-h-j : goal.ask-bounds-h-j
ask-bounds-h-j t c = omega (arith, term-lt c.requires.term, c.requires.scene.hedge)

pub ask-overflow_sub-x : goal.ask-overflow_sub-x
ask-overflow_sub-x t c = omega (arith, symbol-lt c.requires.symbol, c.requires.scene.short)

pub ask-overflow_add-p : goal.ask-overflow_add-p
ask-overflow_add-p t c = omega (arith, symbol-lt c.requires.symbol, c.requires.scene.short)

pub ask-overflow_add-j : goal.ask-overflow_add-j
ask-overflow_add-j t c = omega (arith, term-lt c.requires.term, c.requires.scene.hedge)

pub ask-any-requires : goal.ask-any-requires
ask-any-requires t c = (omega (arith, symbol-lt c.requires.symbol, c.requires.scene.hedge), (symbol-under c.requires.symbol, (c.requires.scene, ask-gathers c.args.s (get_or c.args.e.now c.args.p 0) c.is_unordered.ensures c.if-is_unordered.true c.requires.lent c.requires.scene)))

pub ask-returns-then-is_unordered : goal.ask-returns-then-is_unordered
ask-returns-then-is_unordered t c = ask-any-order c.if-x-h.true c.is_unordered.ensures c.if-is_unordered.true c.any.ensures

pub ask-overflow_add-p-then-x-h : goal.ask-overflow_add-p-then-x-h
ask-overflow_add-p-then-x-h t c = omega (arith, symbol-lt c.requires.symbol, c.requires.scene.short)

pub ask-overflow_add-j-then-x-h : goal.ask-overflow_add-j-then-x-h
ask-overflow_add-j-then-x-h t c = omega (arith, term-lt c.requires.term, c.requires.scene.hedge)

pub ask-accepts-requires : goal.ask-accepts-requires
ask-accepts-requires t c = (omega (arith, symbol-lt c.requires.symbol), (symbol-under c.requires.symbol, (children-of c.requires.term, (c.requires.scene, c.requires.lent))))

pub ask-returns-then-x-h : goal.ask-returns-then-x-h
ask-returns-then-x-h t c = ask-in-order c.if-x-h.true c.is_unordered.ensures c.if-is_unordered.false c.accepts.ensures.accepted c.accepts.ensures.spared

pub ask-returns : goal.ask-returns
ask-returns t c = ask-other c.if-x-h.false

pub crowd-offset_bounds-e-q : goal.crowd-offset_bounds-e-q
crowd-offset_bounds-e-q t c = omega (arith, expression-lt (inner-expression c.requires.inner), c.requires.scene.short)

pub crowd-bounds-e-q : goal.crowd-bounds-e-q
crowd-bounds-e-q t c = omega (arith, expression-lt (inner-expression c.requires.inner), c.requires.scene.short)

pub crowd-overflow_add-result : goal.crowd-overflow_add-result
crowd-overflow_add-result t c = omega (arith, expression-lt (inner-expression c.requires.inner), c.requires.scene.short)

pub crowd-returns-then-x-eq7000 : goal.crowd-returns-then-x-eq7000
crowd-returns-then-x-eq7000 t c = crowd-eps c.if-x-eq7000.true

pub crowd-overflow_add-q : goal.crowd-overflow_add-q
crowd-overflow_add-q t c = omega (arith, expression-lt (inner-expression c.requires.inner), c.requires.scene.short)

pub crowd-look-l-requires : goal.crowd-look-l-requires
crowd-look-l-requires t c = first (inner-expression c.requires.inner) c.if-x-eq7000.false

pub crowd-ask-requires : goal.crowd-ask-requires
crowd-ask-requires t c = (omega (arith, expression-lt (inner-expression c.requires.inner), c.requires.inner.low), (symbol-at (inner-expression c.requires.inner) c.if-x-lt7000.true, (c.requires.term, (c.requires.scene, gathered-lent c.requires.gathered (term-some c.requires.term)))))

pub crowd-alone-requires : goal.crowd-alone-requires
crowd-alone-requires t c = (omega (arith, gathered-six c.requires.gathered (term-some c.requires.term), c.ask.ensures.spared.len), omega (arith, gathered-six c.requires.gathered (term-some c.requires.term), c.ask.ensures.spared.len), omega (arith, expression-lt (inner-expression c.requires.inner), c.requires.scene.short))

pub crowd-overflow_add-top : goal.crowd-overflow_add-top
crowd-overflow_add-top t c = omega (arith, gathered-six c.requires.gathered (term-some c.requires.term))

pub crowd-any-yes-requires : goal.crowd-any-yes-requires
crowd-any-yes-requires t c = (omega (arith, next-far c.requires.skipped c.requires.term), (c.requires.expression, (scene_on c.requires.scene c.ask.ensures.len, gathered-one c.requires.inner c.requires.gathered (term-some c.requires.term) c.requires.skipped c.ask.ensures.spared c.alone.ensures)))

pub crowd-returns-then-ask : goal.crowd-returns-then-ask
crowd-returns-then-ask t c = crowd-yes c.if-x-lt7000.true c.requires.inner c.look-l.ensures c.ask.ensures c.if-ask.true c.requires.skipped (gathered-six c.requires.gathered (term-some c.requires.term)).0 c.alone.ensures c.any-yes.ensures

pub crowd-returns-then-x-lt7000 : goal.crowd-returns-then-x-lt7000
crowd-returns-then-x-lt7000 t c = crowd-no c.if-x-lt7000.true c.requires.inner c.look-l.ensures c.ask.ensures c.if-ask.false

pub crowd-overflow_add-q-2 : goal.crowd-overflow_add-q-2
crowd-overflow_add-q-2 t c = omega (arith, expression-lt (inner-expression c.requires.inner), c.requires.scene.short)

pub crowd-crowd-a-requires : goal.crowd-crowd-a-requires
crowd-crowd-a-requires t c = (omega (arith, expression-lt (inner-expression c.requires.inner), c.requires.scene.short), (c.requires.expression, (inner_first c.requires.inner c.if-x-eq7000.false, (c.requires.skipped, (c.requires.term, (c.requires.scene, c.requires.gathered))))))

pub crowd-returns-then-x-eq7003 : goal.crowd-returns-then-x-eq7003
crowd-returns-then-x-eq7003 t c = crowd-star c.if-x-eq7003.true c.crowd-a.ensures

pub crowd-returns-then-a : goal.crowd-returns-then-a
crowd-returns-then-a t c = crowd-first c.requires.inner c.if-x-eq7000.false c.if-x-lt7000.false c.if-x-eq7003.false c.crowd-a.ensures c.if-a.true

pub crowd-crowd-requires : goal.crowd-crowd-requires
crowd-crowd-requires t c = (omega (arith, expression-lt (inner-expression c.requires.inner), c.crowd-a.ensures.sized c.if-a.false (first (inner-expression c.requires.inner) c.if-x-eq7000.false).R (first (inner-expression c.requires.inner) c.if-x-eq7000.false).here), (c.requires.expression, (inner-second c.requires.inner c.if-x-eq7000.false c.if-x-lt7000.false c.if-x-eq7003.false (c.crowd-a.ensures.sized c.if-a.false), (c.requires.skipped, (c.requires.term, (scene_on c.requires.scene c.crowd-a.ensures.len, gathered-spared c.requires.gathered c.crowd-a.ensures.spared))))))

pub crowd-returns : goal.crowd-returns
crowd-returns t c = crowd-second c.requires.inner c.if-x-eq7000.false c.if-x-lt7000.false c.if-x-eq7003.false c.crowd-a.ensures c.if-a.false c.crowd.ensures

pub fit-offset_bounds-e-at : goal.fit-offset_bounds-e-at
fit-offset_bounds-e-at t c = omega (arith, expression-lt c.requires.expression, c.requires.scene.short)

pub fit-bounds-e-at : goal.fit-bounds-e-at
fit-bounds-e-at t c = omega (arith, expression-lt c.requires.expression, c.requires.scene.short)

pub fit-overflow_add-result : goal.fit-overflow_add-result
fit-overflow_add-result t c = omega (arith, expression-lt c.requires.expression, c.requires.scene.short)

pub fit-returns-then-x-eq7000 : goal.fit-returns-then-x-eq7000
fit-returns-then-x-eq7000 t c = fit-eps c.if-x-eq7000.true c.requires.t_le_cap.0

pub fit-overflow_add-at : goal.fit-overflow_add-at
fit-overflow_add-at t c = omega (arith, expression-lt c.requires.expression, c.requires.scene.short)

pub fit-look-l-requires : goal.fit-look-l-requires
fit-look-l-requires t c = first c.requires.expression c.if-x-eq7000.false

pub fit-ask-yes-requires : goal.fit-ask-yes-requires
fit-ask-yes-requires t c = (omega (arith, expression-lt c.requires.expression), (symbol-at c.requires.expression c.if-x-lt7000.true, (c.requires.term, (c.requires.scene, lent-less c.requires.lent c.requires.t_le_cap.0))))

pub fit-note-requires : goal.fit-note-requires
fit-note-requires t c = (c.requires.t_le_cap.0, omega (arith, c.requires.t_le_cap, c.ask-yes.ensures.spared.len), omega (arith, expression-lt c.requires.expression, c.requires.scene.short))

pub fit-returns-then-x-lt7000 : goal.fit-returns-then-x-lt7000
fit-returns-then-x-lt7000 t c = fit-noted c.if-x-lt7000.true c.requires.expression c.look-l.ensures c.ask-yes.ensures c.requires.t_le_cap.0 c.requires.t_le_cap.1 c.note.ensures

pub fit-overflow_add-at-2 : goal.fit-overflow_add-at-2
fit-overflow_add-at-2 t c = omega (arith, expression-lt c.requires.expression, c.requires.scene.short)

pub fit-fit-a-requires : goal.fit-fit-a-requires
fit-fit-a-requires t c = (omega (arith, expression-lt c.requires.expression, c.requires.scene.short), (first c.requires.expression c.if-x-eq7000.false, (c.requires.term, (c.requires.scene, (c.requires.lent, c.requires.t_le_cap)))))

pub fit-returns-then-x-eq7003 : goal.fit-returns-then-x-eq7003
fit-returns-then-x-eq7003 t c = fit-star c.if-x-eq7003.true c.requires.expression c.fit-a.ensures

pub fit-fit-b-requires : goal.fit-fit-b-requires
fit-fit-b-requires t c = (omega (arith, expression-lt c.requires.expression, c.fit-a.ensures.sized (first c.requires.expression c.if-x-eq7000.false).R (first c.requires.expression c.if-x-eq7000.false).here), (second c.requires.expression c.if-x-eq7000.false c.if-x-lt7000.false c.if-x-eq7003.false c.fit-a.ensures.sized, (c.requires.term, (scene_on c.requires.scene c.fit-a.ensures.beside.len, (lent-on c.requires.lent c.fit-a.ensures.spared.len, (c.fit-a.ensures.within.1, omega (arith, c.requires.t_le_cap, c.fit-a.ensures.spared.len)))))))

pub fit-returns : goal.fit-returns
fit-returns t c = fit-two c.requires.expression c.if-x-eq7000.false c.if-x-lt7000.false c.if-x-eq7003.false c.fit-a.ensures c.fit-b.ensures c.or.ensures

pub shift-offset_bounds-e-at : goal.shift-offset_bounds-e-at
shift-offset_bounds-e-at t c = omega (arith, expression-lt c.requires.expression, c.requires.scene.short)

pub shift-bounds-e-at : goal.shift-bounds-e-at
shift-bounds-e-at t c = omega (arith, expression-lt c.requires.expression, c.requires.scene.short)

pub shift-overflow_add-result : goal.shift-overflow_add-result
shift-overflow_add-result t c = omega (arith, expression-lt c.requires.expression, c.requires.scene.short)

pub shift-returns-then-x-eq7000 : goal.shift-returns-then-x-eq7000
shift-returns-then-x-eq7000 t c = record {
  spared = spared-refl;
  shifted = sh-eps c.if-x-eq7000.true;
}

pub shift-overflow_add-at : goal.shift-overflow_add-at
shift-overflow_add-at t c = omega (arith, expression-lt c.requires.expression, c.requires.scene.short)

pub shift-look-l-requires : goal.shift-look-l-requires
shift-look-l-requires t c = first c.requires.expression c.if-x-eq7000.false

pub shift-ask-yes-requires : goal.shift-ask-yes-requires
shift-ask-yes-requires t c = (omega (arith, expression-lt c.requires.expression), (symbol-at c.requires.expression c.if-x-lt7000.true, (c.requires.term, (c.requires.scene, c.requires.lent))))

pub shift-returns-then-m : goal.shift-returns-then-m
shift-returns-then-m t c = record {
  spared = c.ask-yes.ensures.spared;
  shifted = sh-ask c.if-x-lt7000.true c.look-l.ensures c.if-m.true c.requires.expression c.ask-yes.ensures;
}

pub shift-returns-then-x-lt7000 : goal.shift-returns-then-x-lt7000
shift-returns-then-x-lt7000 t c = record {
  spared = spared-refl;
  shifted = sh-no c.if-x-lt7000.true c.look-l.ensures c.if-m.false;
}

pub shift-bounds-k-at : goal.shift-bounds-k-at
shift-bounds-k-at t c = omega (arith, expression-lt c.requires.expression, c.requires.scene.long, c.requires.scene.short)

pub shift-overflow_add-at-2 : goal.shift-overflow_add-at-2
shift-overflow_add-at-2 t c = omega (arith, expression-lt c.requires.expression, c.requires.scene.short)

pub shift-shift-a-requires : goal.shift-shift-a-requires
shift-shift-a-requires t c = (omega (arith, expression-lt c.requires.expression, c.requires.scene.short), (first c.requires.expression c.if-x-eq7000.false, (c.requires.term, (c.requires.scene, c.requires.lent))))

pub shift-keep-requires : goal.shift-keep-requires
shift-keep-requires t c = omega (arith, expression-lt c.requires.expression, c.requires.scene.long, c.shift-a.ensures.shifted.beside.len)

pub shift-returns-then-x-eq7003 : goal.shift-returns-then-x-eq7003
shift-returns-then-x-eq7003 t c = record {
  spared = c.shift-a.ensures.spared;
  shifted = sh-one c.requires.expression c.requires.scene.long c.enters.ensures c.shift-a.ensures.shifted c.keep.ensures c.if-x-eq7003.true;
}

pub shift-shift-b-requires : goal.shift-shift-b-requires
shift-shift-b-requires t c = (shifted-falls c.decreases c.shift-a.ensures.shifted c.requires.expression c.if-x-eq7000.false, (second c.requires.expression c.if-x-eq7000.false c.if-x-lt7000.false c.if-x-eq7003.false (shifted_end c.shift-a.ensures.shifted), (c.requires.term, (scene_on c.requires.scene (keeps-len c.keep.ensures ∙ c.shift-a.ensures.shifted.beside.len), lent-on c.requires.lent c.shift-a.ensures.spared.len))))

pub shift-returns : goal.shift-returns
shift-returns t c = record {
  spared = spared-trans c.shift-a.ensures.spared c.shift-b.ensures.spared;
  shifted = sh-two c.requires.expression c.requires.scene.long c.enters.ensures c.shift-a.ensures.shifted c.keep.ensures c.if-x-eq7000.false c.if-x-lt7000.false c.if-x-eq7003.false c.follows.ensures c.shift-b.ensures.shifted c.together.ensures;
}
