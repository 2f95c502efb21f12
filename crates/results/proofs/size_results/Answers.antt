-- By the plan's ways.
use mathlib.Core.Path.{refl, ap, ◌∙◌}
use Rattle.plans.specs.Sizes.{sized}
use Rattle.plans.specs.declared.Ways.TheVariants.{Drop, Two}
use Rattle.plans.proofs.Alike.{sized-orders}
use Rattle.results.proofs.Planned.{sized-by}
use Rattle.results.proofs.Results.{alike}
use borrow.Author.Rules.{rules}
use Rattle.results.proofs.size_results.Goals as goal

pub returns-in-Drop : goal.returns-in-Drop
returns-in-Drop c = sized-by _ c.args.plan Drop (search rules) refl

pub returns-in-One : goal.returns-in-One
returns-in-One c = sized-by _ c.args.plan _ c.in-One.is c.size_one.ensures

pub returns-in-Two : goal.returns-in-Two
unfolding sized
returns-in-Two c = sized-by _ c.args.plan Two (search rules) c.size_two.ensures

pub returns-in-Cuts : goal.returns-in-Cuts
unfolding sized
returns-in-Cuts c = sized-by _ c.args.plan _ c.in-Cuts.is c.size_cuts.ensures

pub returns-in-Orders : goal.returns-in-Orders
unfolding sized
returns-in-Orders c = let p = c.args.plan in
    sized-by _ p _ c.in-Orders.is
    (c.size_alike.ensures ∙ ap (λ n. sized (alike c.args.k.now p.first 0 n)) c.count_orders.ensures ∙ sized-orders c.args.k.now p.first c.in-Orders.n)

pub returns-in-Names : goal.returns-in-Names
unfolding sized
returns-in-Names c = let p = c.args.plan in
    sized-by _ p _ c.in-Names.is (c.size_alike-in-Names.ensures ∙ ap (λ n. sized (alike c.args.k.now p.first 0 n)) c.wide.ensures)
