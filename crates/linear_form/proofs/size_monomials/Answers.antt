use borrow.Author.Rules.{rules}
use native.Mathlib.Omega.{arith}
use Rattle.linear_form.proofs.Rows.{kept-short}
use Rattle.linear_form.proofs.Tallying.{tally-sizes}
use Rattle.linear_form.proofs.size_monomials.Goals as goal

pub tally-w-requires : goal.tally-w-requires
tally-w-requires c = let z = kept-short c.args.k.now c.keeping-t.result c.requires.k_len_bound in let e = c.kept_len-kept.ensures in (search rules, search rules, omega arith, search rules, search rules)

pub returns : goal.returns
returns c = tally-sizes c.args.s c.keeping-t.ensures c.kept_len-kept.ensures c.tally-w.ensures
