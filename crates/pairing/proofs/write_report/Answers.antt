use mathlib.Core.Path.{refl, ◌∙◌}
use Rattle.pairing.proofs.Reporting.{one-shows, one-fits, writing-starts, writing-puts, writing-on, writing-ends, writing-inside, writing-next}
use native.Mathlib.Omega.{arith}
use Rattle.pairing.proofs.write_report.Goals as goal

pub fill_in-n-requires : goal.fill_in-n-requires
fill_in-n-requires c = let f = one-fits c.args.terms c.args.hedges c.args.filling.now c.args.pattern.now c.loop-i.i (omega arith) in let s = c.loop-i.invariant.1 in let p = c.requires.filling_len_bound.0 in let q = c.requires.filling_len_bound.1 in record {
  shows = one-shows c.args.terms c.args.hedges c.args.filling.now c.args.pattern.now c.loop-i.i (omega arith) c.requires.shows;
  words_in_bounds = omega arith;
}

pub slice_bounds-write_words_at-end : goal.slice_bounds-write_words_at-end
slice_bounds-write_words_at-end c = let s = c.loop-i.invariant.1 in let p = c.requires.filling_len_bound.1 in let k = c.fill_in-n.auto.room in let z = writing-inside c.args.terms c.args.hedges c.args.filling.now c.args.pattern.now c.args.room.now c.args.at c.loop-i.i c.loop-i.to c.loop-i.room c.loop-i.invariant.0 (omega arith) c.fill_in-n.result c.loop-i.scratch _ c.requires.filling_len_bound.0 (omega arith) c.fill_in-n.ensures in omega arith

pub overflow_add-to : goal.overflow_add-to
overflow_add-to c = let s = c.loop-i.invariant.1 in let p = c.requires.filling_len_bound.1 in let z = writing-next c.args.terms c.args.hedges c.args.filling.now c.args.pattern.now c.args.room.now c.args.at c.loop-i.i c.loop-i.to c.loop-i.room c.loop-i.invariant.0 (omega arith) c.fill_in-n.result c.loop-i.scratch _ c.requires.filling_len_bound.0 (omega arith) c.fill_in-n.ensures c.requires.pattern_in_bounds in omega arith

pub write_words_at-requires : goal.write_words_at-requires
write_words_at-requires c = let s = c.loop-i.invariant.1 in let p = c.requires.filling_len_bound.1 in writing-puts c.args.terms c.args.hedges c.args.filling.now c.args.pattern.now c.args.room.now c.args.at c.loop-i.i c.loop-i.to c.loop-i.room c.loop-i.invariant.0 (omega arith) c.fill_in-n.result c.loop-i.scratch _ c.requires.filling_len_bound.0 (omega arith) c.fill_in-n.ensures c.requires.pattern_in_bounds

pub loop-i-preserved : goal.loop-i-preserved
loop-i-preserved c = let s = c.loop-i.invariant.1 in let p = c.requires.filling_len_bound.1 in (writing-on c.args.terms c.args.hedges c.args.filling.now c.args.pattern.now c.args.room.now c.args.at c.loop-i.i c.loop-i.to c.loop-i.room c.loop-i.invariant.0 (omega arith) c.fill_in-n.result c.loop-i.scratch _ c.requires.filling_len_bound.0 (omega arith) c.fill_in-n.ensures _ c.write_words_at.ensures, c.fill_in-n.auto.room ∙ c.loop-i.invariant.1)

pub loop-i-init : goal.loop-i-init
loop-i-init c = (writing-starts _ _ _ _ _ _, refl)

pub returns : goal.returns
returns c = writing-ends _ _ _ _ _ _ _ _ _ c.loop-i.invariant.0 (omega arith)
