use Prim.Native.Nat.{◌-◌}
use native.Mathlib.Omega.{arith}
use borrow.Author.Rules.{rules}
use Rattle.trying.proofs.Scans.{scan-starts, scan-here, scan-ready, scan-over, scan-on, scan-ends}
use Rattle.trying.proofs.too_long.Goals as goal

pub offset_bounds-conj-i : goal.offset_bounds-conj-i
offset_bounds-conj-i c = let x = scan-here _ _ _ c.loop-i.invariant c.literal_end-end.ensures (omega arith) in
    search rules

pub slice_bounds-filled_len-count : goal.slice_bounds-filled_len-count
slice_bounds-filled_len-count c = let x = scan-here _ _ _ c.loop-i.invariant c.literal_end-end.ensures (omega arith) in
    search rules

pub slice_bounds-filled_len-start : goal.slice_bounds-filled_len-start
slice_bounds-filled_len-start c = let x = scan-here _ _ _ c.loop-i.invariant c.literal_end-end.ensures (omega arith) in
    search rules

pub slice_bounds-filled_len-end : goal.slice_bounds-filled_len-end
slice_bounds-filled_len-end c = let x = scan-here _ _ _ c.loop-i.invariant c.literal_end-end.ensures (omega arith) in
    search rules

pub filled_len-requires-clause-filling_len_bound : goal.filled_len-requires-clause-filling_len_bound
filled_len-requires-clause-filling_len_bound c = let r = scan-ready _ _ _ c.loop-i.invariant c.literal_end-end.ensures (omega arith) c.from-terms.ensures c.from-hedges.ensures in
    r.0

pub filled_len-requires-clause-words_len_bound : goal.filled_len-requires-clause-words_len_bound
filled_len-requires-clause-words_len_bound c = let r = scan-ready _ _ _ c.loop-i.invariant c.literal_end-end.ensures (omega arith) c.from-terms.ensures c.from-hedges.ensures in
    r.1

pub filled_len-requires-clause-shows : goal.filled_len-requires-clause-shows
filled_len-requires-clause-shows c = let r = scan-ready _ _ _ c.loop-i.invariant c.literal_end-end.ensures (omega arith) c.from-terms.ensures c.from-hedges.ensures in
    r.2

pub returns-then-filled_len-gt-LITERAL : goal.returns-then-filled_len-gt-LITERAL
returns-then-filled_len-gt-LITERAL c = scan-over _ _ _ c.loop-i.invariant c.literal_end-end.ensures (omega arith) c.from-terms.ensures c.from-hedges.ensures c.filled_len.ensures (omega arith)

pub loop-i-smaller : goal.loop-i-smaller
loop-i-smaller c = let x = scan-here _ _ _ c.loop-i.invariant c.literal_end-end.ensures (omega arith) in
    search rules

pub loop-i-preserved : goal.loop-i-preserved
loop-i-preserved c = scan-on _ _ _ c.loop-i.invariant c.literal_end-end.ensures (omega arith) c.from-terms.ensures c.from-hedges.ensures c.filled_len.ensures (omega arith)

pub loop-i-init : goal.loop-i-init
loop-i-init c = scan-starts _ _ _ c.requires

pub returns : goal.returns
returns c = scan-ends _ _ _ c.loop-i.invariant (omega arith)
