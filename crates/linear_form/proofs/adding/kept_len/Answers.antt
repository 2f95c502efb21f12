-- Four parts, each no longer than the words.
use native.Mathlib.Omega.{arith}
use Rattle.linear_form.specs.Rows.{kept_length}
use Rattle.linear_form.proofs.Rows.{parts-short}
use Rattle.linear_form.proofs.adding.kept_len.Goals as goal

pub returns : goal.returns
unfolding kept_length
returns c = omega arith

pub overflow_add-result : goal.overflow_add-result
overflow_add-result c = let p = parts-short c.args.k.now c.args.s c.requires in omega arith

pub overflow_add-result-2 : goal.overflow_add-result-2
overflow_add-result-2 c = let p = parts-short c.args.k.now c.args.s c.requires in omega arith

pub overflow_add-result-3 : goal.overflow_add-result-3
overflow_add-result-3 c = let p = parts-short c.args.k.now c.args.s c.requires in omega arith

pub overflow_add-result-4 : goal.overflow_add-result-4
overflow_add-result-4 c = let p = parts-short c.args.k.now c.args.s c.requires in omega arith
