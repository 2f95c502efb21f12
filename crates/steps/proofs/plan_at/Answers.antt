-- The plan of the side that the rank was found from, or of the membership.
use mathlib.Core.List.{◌++◌}
use Rattle.search.specs.Ranking.{side_answer}
use Rattle.views.proofs.LiteralWalks.{at-equation, at-membership}
use Rattle.plans.specs.Planned.{Planned}
use Rattle.steps.proofs.Asked.{applies-swapped, applies-written, applies-member}
use Rattle.steps.proofs.plan_at.Goals as goal

pub plan_equation-requires : goal.plan_equation-requires
plan_equation-requires c = let k = c.args.k.now in
    applies-swapped c.args.s k c.args.b c.requires.answer_at _ c.if-k-at-eq5000.true c.if-swap.true λ before l r behind p. c.swapped.ensures.0 k before behind l r (c.see-v.ensures.0 before l r behind p)

pub plan_equation-requires-then-k-at-eq5000 : goal.plan_equation-requires-then-k-at-eq5000
plan_equation-requires-then-k-at-eq5000 c = applies-written c.args.s c.args.k.now c.args.b c.requires.answer_at _ c.if-k-at-eq5000.true c.if-swap.false c.see-v.ensures.0

pub plan_membership-requires : goal.plan_membership-requires
plan_membership-requires c = applies-member c.args.s c.args.k.now c.args.b c.requires.answer_at _ c.requires.at_in_bounds.1 c.if-k-at-eq5000.false c.show_membership-m.ensures.0

pub returns-then-swap : goal.returns-then-swap
returns-then-swap c = let b = c.args.b in
    let k = c.args.k.now in
    at-equation k b.at (λ before l behind. Planned k c.plan_equation.result before behind (side_answer c.args.s b.swap b.rank (before ++ behind) l)) c.if-k-at-eq5000.true
    λ before l r behind p.
    let s = c.see-v.ensures.0 before l r behind p in
    rw c.if-swap.true (c.plan_equation.ensures.results before behind r l (c.swapped.ensures.0 k before behind l r s))

pub returns-then-k-at-eq5000 : goal.returns-then-k-at-eq5000
returns-then-k-at-eq5000 c = let b = c.args.b in
    let k = c.args.k.now in
    at-equation k b.at (λ before l behind. Planned k c.plan_equation-then-k-at-eq5000.result before behind (side_answer c.args.s b.swap b.rank (before ++ behind) l)) c.if-k-at-eq5000.true
    λ before l r behind p. rw c.if-swap.false (c.plan_equation-then-k-at-eq5000.ensures.results before behind l r (c.see-v.ensures.0 before l r behind p))

pub returns : goal.returns
returns c = let b = c.args.b in
    let k = c.args.k.now in
    at-membership k b.at (λ before l behind. Planned k c.plan_membership.result before behind (side_answer c.args.s b.swap b.rank (before ++ behind) l)) c.if-k-at-eq5000.false
    λ before h R behind p. c.plan_membership.ensures.results c.args.s before h R behind (c.show_membership-m.ensures.0 before h R behind p)
