use native.Mathlib.Omega.{arith}
use borrow.Author.Rules.{rules}
use Rattle.trying.proofs.Questions.{fitting-some, loop-room, loop-here, trying-starts, trying-conj, trying-met, trying-next, trying-ends}
use Rattle.trying.proofs.meets_one.Goals as goal

pub loop-i-init : goal.loop-i-init
loop-i-init c = trying-starts _ _ _ _ c.requires.fitting_question c.from-n.ensures

pub bounds-question-i : goal.bounds-question-i
bounds-question-i c = let r = loop-room _ _ _ (fitting-some _ _ _ c.loop-i.invariant.some) c.loop-i.invariant.number in search rules

pub bounds-question-i-in-loop-i : goal.bounds-question-i-in-loop-i
bounds-question-i-in-loop-i c = let r = loop-room _ _ _ (fitting-some _ _ _ c.loop-i.invariant.some) c.loop-i.invariant.number in search rules

pub meets_all-requires : goal.meets_all-requires
meets_all-requires c = record {
  fitting_conj = trying-conj _ _ _ c.loop-i.invariant (omega arith) c.from-from.ensures c.from-to.ensures;
  room_in_bounds = omega (arith, c.loop-i.invariant.keeps.len);
}

pub returns-then-meets_all : goal.returns-then-meets_all
returns-then-meets_all c = trying-met _ _ _ c.loop-i.invariant (omega arith) c.from-from.ensures c.from-to.ensures c.meets_all.ensures c.if-meets_all.true

pub loop-i-preserved : goal.loop-i-preserved
loop-i-preserved c = trying-next _ _ _ c.loop-i.invariant (omega arith) c.from-from.ensures c.from-to.ensures c.meets_all.ensures c.if-meets_all.false

pub returns : goal.returns
returns c = trying-ends _ _ _ c.loop-i.invariant (omega arith)

pub slice_bounds-meets_all-count : goal.slice_bounds-meets_all-count
slice_bounds-meets_all-count c = let x = loop-here _ _ _ (fitting-some _ _ _ c.loop-i.invariant.some) c.loop-i.invariant.number (omega arith) c.from-from.ensures c.from-to.ensures in
    search rules

pub slice_bounds-meets_all-start : goal.slice_bounds-meets_all-start
slice_bounds-meets_all-start c = let x = loop-here _ _ _ (fitting-some _ _ _ c.loop-i.invariant.some) c.loop-i.invariant.number (omega arith) c.from-from.ensures c.from-to.ensures in
    search rules

pub slice_bounds-meets_all-end : goal.slice_bounds-meets_all-end
slice_bounds-meets_all-end c = let x = loop-here _ _ _ (fitting-some _ _ _ c.loop-i.invariant.some) c.loop-i.invariant.number (omega arith) c.from-from.ensures c.from-to.ensures in
    search rules
