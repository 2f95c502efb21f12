use mathlib.Core.Path.{sym}
use native.Mathlib.Omega.{arith}
use lib.Seq.{length-take-le}
use Rattle.day.proofs.Cuts.{few-questions}
use Rattle.day.proofs.Ends.{kept_same, kept_on}
use Rattle.day.proofs.Turns.{none_yet, place-fits, no_room, one_more, all_there}
use Rattle.day.proofs.answer_all.Goals as goal

pub loop-i-init : goal.loop-i-init
loop-i-init c = let p = c.requires in
    let e = c.from-n.ensures in
    (e, none_yet _ _ p.1 _ _ _ p.4 p.5 _ (omega arith), kept_same _, kept_same _)

pub solve_part-p-requires : goal.solve_part-p-requires
solve_part-p-requires c = let p = c.requires in
    let l = c.loop-i in
    let e = l.invariant.0 in
    let is = p.1 in
    let w = l.invariant.2.long in
    let a = l.invariant.3.long in
    let hw = p.2 in
    let ha = p.3 in
    (p.0, omega arith, omega arith, omega arith)

pub returns-then-room-next : goal.returns-then-room-next
returns-then-room-next c = let p = c.requires in
    let l = c.loop-i in
    let e = l.invariant.0 in
    let s = c.solve_part-p.ensures in (
      no_room _ _ p.1 _ _ _ _ _ _ l.invariant.1 (omega arith) _ _ l.invariant.2.long l.invariant.3.long _ _ _ s.len_le_room.0 s.len_le_room.1 s.len_le_room.2 _ (omega arith) c.if-room-next.true,
      kept_on _ _ _ l.invariant.2 s.kept.0,
      kept_on _ _ _ l.invariant.3 s.kept.1,
    )

pub slice_bounds-place-end : goal.slice_bounds-place-end
slice_bounds-place-end c = c.solve_part-p.ensures.len_le_room.1

pub slice_bounds-place-end-in-loop-i : goal.slice_bounds-place-end-in-loop-i
slice_bounds-place-end-in-loop-i c = sym (length-take-le _ _ c.solve_part-p.ensures.len_le_room.1)

pub place-requires : goal.place-requires
place-requires c = let p = c.requires in
    let l = c.loop-i in
    let e = l.invariant.0 in
    let is = p.1 in
    let f = few-questions _ p.0 in
    let s = c.solve_part-p.ensures in
    place-fits _ _ p.1 _ _ _ _ _ _ l.invariant.1 (omega arith) _ _ l.invariant.2.long l.invariant.3.long _ _ _ s.len_le_room.0 s.len_le_room.1 s.len_le_room.2 (omega arith) _ (omega arith) c.if-room-next.false

pub loop-i-preserved : goal.loop-i-preserved
loop-i-preserved c = let p = c.requires in
    let l = c.loop-i in
    let e = l.invariant.0 in
    let s = c.solve_part-p.ensures in (
      e,
      one_more _ _ p.1 _ _ _ _ _ _ l.invariant.1 (omega arith) _ _ l.invariant.2.long l.invariant.3.long _ _ _ s.len_le_room.0 s.len_le_room.1 s.len_le_room.2 _ (omega arith) c.if-room-next.false _ c.place.ensures,
      kept_on _ _ _ l.invariant.2 s.kept.0,
      kept_on _ _ _ l.invariant.3 s.kept.1,
    )

pub returns : goal.returns
returns c = let l = c.loop-i in
    let e = l.invariant.0 in
    (all_there _ _ c.requires.1 _ _ _ _ _ _ l.invariant.1 (omega arith), l.invariant.2, l.invariant.3)
