-- The lengths of what is kept, of the first term and of the rest, each bounded.
use native.Mathlib.Omega.{arith}
use Rattle.linear_form.specs.Rows.{length_by}
use Rattle.linear_form.proofs.Rows.{row-short}
use Rattle.linear_form.proofs.adding.result_len.Goals as goal

pub returns : goal.returns
unfolding length_by
returns c = omega arith

pub overflow_add-result : goal.overflow_add-result
overflow_add-result c = let h = c.requires in let r = row-short c.args.k.now c.args.p h.0 h.2 in omega arith

pub overflow_add-result-2 : goal.overflow_add-result-2
overflow_add-result-2 c = let h = c.requires in let r = row-short c.args.k.now c.args.p h.0 h.2 in omega arith

pub overflow_add-result-3 : goal.overflow_add-result-3
overflow_add-result-3 c = let h = c.requires in let r = row-short c.args.k.now c.args.p h.0 h.2 in omega arith
