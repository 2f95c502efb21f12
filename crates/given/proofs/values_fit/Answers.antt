use Prim.Native.Nat.{◌-◌}
use mathlib.Core.Path.{refl, sym, ◌∙◌}
use native.Mathlib.Omega.{arith}
use borrow.Author.Rules.{rules}
use Rattle.language.proofs.Walks.{walk-starts, walk-room, walk-part, walk-on, walk-stops, walk_ends, passing, passes_none, passes_on, passes-fails}
use Rattle.header.specs.Heading.{counts_in}
use Rattle.given.proofs.Forms.{value_test, all_pass}
use Rattle.given.proofs.values_fit.Goals as goal

pub loop-i-init : goal.loop-i-init
loop-i-init c = let e = c.wide-stop.ensures in
    let w = walk-starts (passing (value_test (counts_in c.args.h))) 1 _ _ 2 _ c.requires.filling_value refl (omega arith) in
    (omega arith, omega (arith, walk-room _ _ _ _ w), c.requires.n_value, w)

pub offset_bounds-filling-from : goal.offset_bounds-filling-from
offset_bounds-filling-from c = let l = c.loop-i in
    let s = walk-part _ _ _ _ l.invariant.3 (omega arith) _ c.wide-to.ensures in
    search rules

pub slice_bounds-value_fits-count : goal.slice_bounds-value_fits-count
slice_bounds-value_fits-count c = let l = c.loop-i in
    let s = walk-part _ _ _ _ l.invariant.3 (omega arith) _ c.wide-to.ensures in
    search rules

pub slice_bounds-value_fits-start : goal.slice_bounds-value_fits-start
slice_bounds-value_fits-start c = let l = c.loop-i in
    let s = walk-part _ _ _ _ l.invariant.3 (omega arith) _ c.wide-to.ensures in
    search rules

pub slice_bounds-value_fits-end : goal.slice_bounds-value_fits-end
slice_bounds-value_fits-end c = let l = c.loop-i in
    let s = walk-part _ _ _ _ l.invariant.3 (omega arith) _ c.wide-to.ensures in
    search rules

pub returns-then-not-value_fits : goal.returns-then-not-value_fits
returns-then-not-value_fits c = let w = c.wide-to in
    let l = c.loop-i in
    walk-stops _ _ _ _ l.invariant.3 (omega arith) _ w.ensures (passes-fails (value_test _) _ (sym c.value_fits.ensures ∙ c.if-not-value_fits.true)) ∙ all_pass _ _ _ l.invariant.2 l.invariant.3.laid

pub loop-i-preserved : goal.loop-i-preserved
loop-i-preserved c = let w = c.wide-to in
    let l = c.loop-i in
    (l.invariant.0, l.invariant.1, l.invariant.2, walk-on _ _ _ _ l.invariant.3 (omega arith) _ w.ensures (passes_on (value_test _) _ (sym c.value_fits.ensures ∙ c.if-not-value_fits.false)))

pub returns : goal.returns
returns c = let l = c.loop-i in sym (passes_none (value_test _) _) ∙ walk_ends _ _ _ _ l.invariant.3 (omega arith) ∙ all_pass _ _ _ l.invariant.2 l.invariant.3.laid
