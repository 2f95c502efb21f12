-- `named_step`: the words counted afresh are the table of `named_by`.
use Prim.Native.Nat.{ℕ}
use native.Mathlib.Omega.{arith}
use lib.ListN.{length-replicate}
use Rattle.counts.specs.Tables.{table as places}
use Rattle.telling.proofs.Counting.{zeros-short, all-counted}
use Rattle.telling.proofs.named_step.Goals as goal

pub count_in-requires : goal.count_in-requires
count_in-requires c = (omega arith, length-replicate {A = ℕ} places 0, λ x. let z = zeros-short x in let p = c.requires.k_len_bound in omega arith)

pub named_by-requires-clause-table_value : goal.named_by-requires-clause-table_value
named_by-requires-clause-table_value c = all-counted c.args.k.now _ c.count_in.ensures

pub returns : goal.returns
returns c = c.named_by.ensures
