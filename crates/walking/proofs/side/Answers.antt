-- `walking::side` meets its contract: brackets, nothing that begins a side, a blank, a functor.
use native.Mathlib.Omega.{arith}
use mathlib.Core.Bool.{not}
use mathlib.Core.Path.{ap}
use Rattle.walking.proofs.Wholes.{past_next, in-brackets, none-begins, blank_side, functor-side}
use borrow.Author.Rules.{rules}
use Rattle.walking.proofs.side.Goals as goal

pub brackets-requires : goal.brackets-requires
brackets-requires c = (search (past_next), search rules, search rules)

pub returns-then-role-eq4 : goal.returns-then-role-eq4
returns-then-role-eq4 c = search (in-brackets)

pub returns-then-not-is_allowed : goal.returns-then-not-is_allowed
returns-then-not-is_allowed c = search (none-begins, ap not c.if-not-is_allowed.true)

pub returns-then-role-eq1 : goal.returns-then-role-eq1
returns-then-role-eq1 c = search (blank_side, ap not c.if-not-is_allowed.false)

pub behind_functor-requires : goal.behind_functor-requires
behind_functor-requires c = (search (past_next), omega arith, search rules)

pub returns : goal.returns
returns c = search (functor-side, ap not c.if-not-is_allowed.false)
