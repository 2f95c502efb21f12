use native.Mathlib.Omega.{arith}
use borrow.Author.Rules.{rules}
use Rattle.trying.proofs.Questions.{loop-room, loop-here, measuring-starts, measuring-conj, measuring-over, measuring-on, measuring-ends}
use Rattle.trying.proofs.any_too_long.Goals as goal

pub loop-i-init : goal.loop-i-init
loop-i-init c = measuring-starts _ _ _ c.requires c.from-n.ensures

pub overflow_add-i : goal.overflow_add-i
overflow_add-i c = let r = loop-room _ _ _ c.loop-i.invariant.some c.loop-i.invariant.number in search rules

pub offset_bounds-question-i : goal.offset_bounds-question-i
offset_bounds-question-i c = let r = loop-room _ _ _ c.loop-i.invariant.some c.loop-i.invariant.number in search rules

pub bounds-question-i : goal.bounds-question-i
bounds-question-i c = let r = loop-room _ _ _ c.loop-i.invariant.some c.loop-i.invariant.number in search rules

pub overflow_add-i-in-loop-i : goal.overflow_add-i-in-loop-i
overflow_add-i-in-loop-i c = let r = loop-room _ _ _ c.loop-i.invariant.some c.loop-i.invariant.number in search rules

pub offset_bounds-question-i-in-loop-i : goal.offset_bounds-question-i-in-loop-i
offset_bounds-question-i-in-loop-i c = let r = loop-room _ _ _ c.loop-i.invariant.some c.loop-i.invariant.number in search rules

pub bounds-question-i-in-loop-i : goal.bounds-question-i-in-loop-i
bounds-question-i-in-loop-i c = let r = loop-room _ _ _ c.loop-i.invariant.some c.loop-i.invariant.number in search rules

pub offset_bounds-question-from : goal.offset_bounds-question-from
offset_bounds-question-from c = let x = loop-here _ _ _ c.loop-i.invariant.some c.loop-i.invariant.number (omega arith) c.from-from.ensures c.from-to.ensures in
    search rules

pub slice_bounds-too_long-count : goal.slice_bounds-too_long-count
slice_bounds-too_long-count c = let x = loop-here _ _ _ c.loop-i.invariant.some c.loop-i.invariant.number (omega arith) c.from-from.ensures c.from-to.ensures in
    search rules

pub slice_bounds-too_long-start : goal.slice_bounds-too_long-start
slice_bounds-too_long-start c = let x = loop-here _ _ _ c.loop-i.invariant.some c.loop-i.invariant.number (omega arith) c.from-from.ensures c.from-to.ensures in
    search rules

pub slice_bounds-too_long-end : goal.slice_bounds-too_long-end
slice_bounds-too_long-end c = let x = loop-here _ _ _ c.loop-i.invariant.some c.loop-i.invariant.number (omega arith) c.from-from.ensures c.from-to.ensures in
    search rules

pub too_long-requires : goal.too_long-requires
too_long-requires c = measuring-conj _ _ _ c.loop-i.invariant (omega arith) c.from-from.ensures c.from-to.ensures

pub returns-then-too_long : goal.returns-then-too_long
returns-then-too_long c = measuring-over _ _ _ c.loop-i.invariant (omega arith) c.from-from.ensures c.from-to.ensures c.too_long.ensures c.if-too_long.true

pub loop-i-preserved : goal.loop-i-preserved
loop-i-preserved c = measuring-on _ _ _ c.loop-i.invariant (omega arith) c.from-from.ensures c.from-to.ensures c.too_long.ensures c.if-too_long.false

pub returns : goal.returns
returns c = measuring-ends _ _ _ c.loop-i.invariant (omega arith)
