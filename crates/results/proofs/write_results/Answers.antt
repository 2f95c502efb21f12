-- By the plan's ways.
use mathlib.Core.Path.{ap, sym, subst}
use native.Mathlib.Omega.{arith}
use Rattle.rules.specs.Elements.{factorial}
use Rattle.frames.specs.Frames.{in_frames}
use Rattle.plans.specs.Results.{made}
use Rattle.plans.specs.Sizes.{Ready}
use Rattle.plans.specs.declared.Ways.TheVariants.{Drop, Two}
use Rattle.slices.proofs.Still.{wrote_as, fits-as}
use Rattle.results.proofs.Planned.{framed-one, ready_by, wrote_by, wrote_none}
use Rattle.results.proofs.Results.{alike, alike-few, orders-few}
use borrow.Author.Rules.{rules}
use Rattle.results.proofs.write_results.Goals as goal

pub write_framed-requires : goal.write_framed-requires
write_framed-requires c = let a = c.args in
    let r = ready_by _ a.plan _ c.in-One.is c.requires in
    (r.short.0, fits-as (framed-one a.number (made a.k.now a.plan.first c.in-One.cut)) _ _ r.room, omega arith)

pub write_two-requires : goal.write_two-requires
write_two-requires c = ready_by _ c.args.plan Two (search rules) c.requires

pub write_cuts-requires : goal.write_cuts-requires
write_cuts-requires c = ready_by _ c.args.plan _ c.in-Cuts.is c.requires

pub write_alike-requires : goal.write_alike-requires
write_alike-requires c = let a = c.args in
    let n = c.in-Orders.n in
    let r = ready_by _ a.plan _ c.in-Orders.is c.requires in
    subst (λ m. Ready a.number (alike a.k.now a.plan.first 0 m) a.out.now a.at)
    (orders-few n (let f = alike-few a.k.now a.plan.first a.number (factorial n) 0 in let l = r.low in omega arith) c.count_orders.ensures) r

pub write_alike-requires-in-Names : goal.write_alike-requires-in-Names
write_alike-requires-in-Names c = let a = c.args in
    subst (λ m. Ready a.number (alike a.k.now a.plan.first 0 m) a.out.now a.at) (sym c.wide.ensures) (ready_by _ a.plan _ c.in-Names.is c.requires)

pub returns-in-Drop : goal.returns-in-Drop
returns-in-Drop c = let a = c.args in wrote_by _ a.plan Drop (search rules) a.number (wrote_none _ _)

pub returns-in-One : goal.returns-in-One
returns-in-One c = let a = c.args in
    wrote_by _ a.plan _ c.in-One.is a.number (wrote_as (framed-one a.number (made a.k.now a.plan.first c.in-One.cut)) c.write_framed.ensures)

pub returns-in-Two : goal.returns-in-Two
returns-in-Two c = let a = c.args in wrote_by _ a.plan Two (search rules) a.number c.write_two.ensures

pub returns-in-Cuts : goal.returns-in-Cuts
returns-in-Cuts c = let a = c.args in wrote_by _ a.plan _ c.in-Cuts.is a.number c.write_cuts.ensures

pub returns-in-Orders : goal.returns-in-Orders
returns-in-Orders c = let a = c.args in
    let n = c.in-Orders.n in
    let r = ready_by _ a.plan _ c.in-Orders.is c.requires in
    wrote_by _ a.plan _ c.in-Orders.is a.number
    (wrote_as (ap (λ m. in_frames a.number (alike a.k.now a.plan.first 0 m))
    (orders-few n (let f = alike-few a.k.now a.plan.first a.number (factorial n) 0 in let l = r.low in omega arith) c.count_orders.ensures)) c.write_alike.ensures)

pub returns-in-Names : goal.returns-in-Names
returns-in-Names c = let a = c.args in
    wrote_by _ a.plan _ c.in-Names.is a.number
    (wrote_as (ap (λ m. in_frames a.number (alike a.k.now a.plan.first 0 m)) (sym c.wide.ensures)) c.write_alike-in-Names.ensures)
