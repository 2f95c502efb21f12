use Rattle.write_text.proofs.Lining.{question-long, table-within, within-question, listing-on, listing-ends}
use mathlib.Core.Path.{refl}
use native.Mathlib.Omega.{arith}
use borrow.Author.Rules.{rules}
use Rattle.write_text.proofs.lines.put_lines.Goals as goal

pub bounds-w-4 : goal.bounds-w-4
bounds-w-4 c = let l = question-long c.requires in omega arith

pub loop-i-init : goal.loop-i-init
loop-i-init c = (c.wide-many.ensures, record { same = refl; high = omega arith; each = λ q e new z l. l })

pub bounds-w-i : goal.bounds-w-i
bounds-w-i c = let t = table-within c.requires in let m = c.loop-i.invariant.0 in omega arith

pub bounds-w-i-in-loop-i : goal.bounds-w-i-in-loop-i
bounds-w-i-in-loop-i c = let t = table-within c.requires in let m = c.loop-i.invariant.0 in omega arith

pub loop-i-preserved : goal.loop-i-preserved
loop-i-preserved c = let m = c.loop-i.invariant.0 in (m, listing-on c.loop-i.invariant.1 _ _ (omega arith) c.wide-from.ensures c.wide-to.ensures c.put_line-n.ensures (omega arith))

pub returns : goal.returns
returns c = let m = c.loop-i.invariant.0 in listing-ends c.loop-i.invariant.1 (omega arith)

pub slice_bounds-put_line-count : goal.slice_bounds-put_line-count
slice_bounds-put_line-count c = let m = c.loop-i.invariant.0 in let s = within-question c.requires _ _ _ (omega arith) c.wide-from.ensures c.wide-to.ensures in search rules

pub slice_bounds-put_line-start : goal.slice_bounds-put_line-start
slice_bounds-put_line-start c = let m = c.loop-i.invariant.0 in let s = within-question c.requires _ _ _ (omega arith) c.wide-from.ensures c.wide-to.ensures in search rules

pub slice_bounds-put_line-end : goal.slice_bounds-put_line-end
slice_bounds-put_line-end c = let m = c.loop-i.invariant.0 in let s = within-question c.requires _ _ _ (omega arith) c.wide-from.ensures c.wide-to.ensures in search rules
