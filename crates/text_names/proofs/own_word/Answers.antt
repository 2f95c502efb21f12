-- `text_names::own_word` meets its contract: no name, and a name.
use native.Mathlib.Omega.{arith}
use Rattle.language.specs.Limits.{desk}
use Rattle.text_names.proofs.Words.{no_name, a-shelf, a_word, few-names}
use Rattle.text_names.proofs.own_word.Goals as goal

pub returns-then-first-eq0 : goal.returns-then-first-eq0
returns-then-first-eq0 c = search (no_name)

pub number-requires : goal.number-requires
number-requires c = search (a-shelf)

pub overflow_cast-result : goal.overflow_cast-result
overflow_cast-result c = let q = few-names desk _ _ c.args.at c.requires c.args.mark c.first_of-first.ensures c.shelf_by.ensures c.number.ensures in omega arith

pub overflow_add-result : goal.overflow_add-result
overflow_add-result c = let q = few-names desk _ _ c.args.at c.requires c.args.mark c.first_of-first.ensures c.shelf_by.ensures c.number.ensures in omega arith

pub returns : goal.returns
returns c = search (a_word)
