-- `one_out`: by whether the word has a place in the table.
use native.Mathlib.Omega.{arith}
use Rattle.counts.proofs.Added.{past-out, within-out}
use Rattle.counts.proofs.one_out.Goals as goal

pub returns-then-x-ge-TABLE : goal.returns-then-x-ge-TABLE
returns-then-x-ge-TABLE c = past-out _ _ c.if-x-ge-TABLE.true

pub returns : goal.returns
returns c = within-out c.args.x c.args.t.now c.if-x-ge-TABLE.false

pub overflow_sub-t : goal.overflow_sub-t
overflow_sub-t c = let z = c.requires c.if-x-ge-TABLE.false in omega arith
