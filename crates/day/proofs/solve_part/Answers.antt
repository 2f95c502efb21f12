-- `day::solve_part` meets its contract: the question's bytes are those between two offsets.
use native.Mathlib.Omega.{arith}
use borrow.Author.Rules.{rules}
use Rattle.day.proofs.Cuts.{table-inside, few-questions, cut_low, cut_high, cut-words}
use Rattle.day.proofs.Ends.{part_of}
use Rattle.day.proofs.solve_part.Goals as goal

pub offset-from-requires : goal.offset-from-requires
offset-from-requires c = let p = c.requires in let i = p.1 in let t = table-inside _ p.0 in let f = few-questions _ p.0 in (omega arith, omega arith)

pub overflow_add-i : goal.overflow_add-i
overflow_add-i c = let p = c.requires in let i = p.1 in let f = few-questions _ p.0 in omega arith

pub offset-to-requires : goal.offset-to-requires
offset-to-requires c = let p = c.requires in let i = p.1 in let t = table-inside _ p.0 in let f = few-questions _ p.0 in (omega arith, omega arith)

pub slice_bounds-solve_one-count : goal.slice_bounds-solve_one-count
slice_bounds-solve_one-count c = let p = c.requires in let low = cut_low _ p.0 _ p.1 _ _ c.offset-from.ensures.0 c.offset-to.ensures.0 in omega arith

pub slice_bounds-solve_one-start : goal.slice_bounds-solve_one-start
slice_bounds-solve_one-start c = let p = c.requires in let low = cut_low _ p.0 _ p.1 _ _ c.offset-from.ensures.0 c.offset-to.ensures.0 in omega arith

pub slice_bounds-solve_one-end : goal.slice_bounds-solve_one-end
slice_bounds-solve_one-end c = let p = c.requires in let high = cut_high _ p.0 _ p.1 _ _ c.offset-from.ensures.0 c.offset-to.ensures.0 in omega arith

pub returns : goal.returns
returns c = let p = c.requires in
    let e = c.solve_one.ensures in
    record {
      len_le_room = (e.len_le_room.0, e.len_le_room.1, part_of _ _ _ _ _ (cut-words _ p.0 _ p.1 _ _ c.offset-from.ensures.0 c.offset-to.ensures.0) e.len_le_room.2);
      kept = e.kept;
    }
