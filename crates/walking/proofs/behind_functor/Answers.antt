-- `walking::behind_functor` meets its contract: with brackets, and without.
use Rattle.walking.proofs.Wholes.{past_next, with-brackets, without-brackets}
use borrow.Author.Rules.{rules}
use Rattle.walking.proofs.behind_functor.Goals as goal

pub brackets-w-requires : goal.brackets-w-requires
brackets-w-requires c = (search (past_next), search rules, search rules)

pub returns-then-role-eq4 : goal.returns-then-role-eq4
returns-then-role-eq4 c = search (with-brackets)

pub returns : goal.returns
returns c = search (without-brackets)
