-- `given::count_variables` meets its contract: counts that fit are small.
use borrow.Author.Rules.{rules}
use Rattle.language.specs.Limits.{desk}
use Rattle.language.proofs.Wider.{counts-within}
use Rattle.given.proofs.count_variables.Goals as goal

pub overflow_add-result : goal.overflow_add-result
overflow_add-result c = let s = counts-within desk _ _ c.requires in search rules

pub overflow_add-result-2 : goal.overflow_add-result-2
overflow_add-result-2 c = let s = counts-within desk _ _ c.requires in search rules
