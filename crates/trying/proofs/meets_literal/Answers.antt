-- `trying::meets_literal` meets its contract: the parts of an equation and of a membership are what their tests ask, and the tests decide.
use native.Mathlib.Omega.{arith}
use borrow.Author.Rules.{rules}
use Rattle.trying.proofs.Meeting.{literal-inside, equation-ready, equation-says, membership-ready, membership-says}
use Rattle.trying.proofs.meets_literal.Goals as goal

pub bounds-literal-0 : goal.bounds-literal-0
bounds-literal-0 c = let i = literal-inside _ _ _ _ c.first_end-mid.ensures c.requires.fitting_literal in search rules

pub meets_equation-requires-clause-shows : goal.meets_equation-requires-clause-shows
meets_equation-requires-clause-shows c = let r = equation-ready _ _ _ _ c.first_end-mid.ensures c.from-terms.ensures c.from-hedges.ensures c.requires.fitting_literal c.if-literal-eq5000.true in
    r.left

pub meets_equation-requires-clause-shows_2 : goal.meets_equation-requires-clause-shows_2
meets_equation-requires-clause-shows_2 c = let r = equation-ready _ _ _ _ c.first_end-mid.ensures c.from-terms.ensures c.from-hedges.ensures c.requires.fitting_literal c.if-literal-eq5000.true in
    r.right

pub meets_equation-requires-clause-comparable : goal.meets_equation-requires-clause-comparable
meets_equation-requires-clause-comparable c = let r = equation-ready _ _ _ _ c.first_end-mid.ensures c.from-terms.ensures c.from-hedges.ensures c.requires.fitting_literal c.if-literal-eq5000.true in
    r.test

pub meets_equation-requires-clause-right_len_bound : goal.meets_equation-requires-clause-right_len_bound
meets_equation-requires-clause-right_len_bound c = let r = equation-ready _ _ _ _ c.first_end-mid.ensures c.from-terms.ensures c.from-hedges.ensures c.requires.fitting_literal c.if-literal-eq5000.true in
    r.fits

pub meets_equation-requires-clause-room_in_bounds : goal.meets_equation-requires-clause-room_in_bounds
meets_equation-requires-clause-room_in_bounds c = let r = equation-ready _ _ _ _ c.first_end-mid.ensures c.from-terms.ensures c.from-hedges.ensures c.requires.fitting_literal c.if-literal-eq5000.true in
    omega arith

pub returns-then-literal-eq5000 : goal.returns-then-literal-eq5000
returns-then-literal-eq5000 c = equation-says _ _ _ _ c.first_end-mid.ensures c.from-terms.ensures c.from-hedges.ensures c.if-literal-eq5000.true c.meets_equation.ensures

pub meets_membership-requires-clause-shows : goal.meets_membership-requires-clause-shows
meets_membership-requires-clause-shows c = let r = membership-ready _ _ _ _ c.first_end-mid.ensures c.from-terms.ensures c.from-hedges.ensures c.requires.fitting_literal c.if-literal-eq5000.false in
    r.hedge

pub meets_membership-requires-clause-testable : goal.meets_membership-requires-clause-testable
meets_membership-requires-clause-testable c = let r = membership-ready _ _ _ _ c.first_end-mid.ensures c.from-terms.ensures c.from-hedges.ensures c.requires.fitting_literal c.if-literal-eq5000.false in
    r.test

pub meets_membership-requires-clause-expression_len_bound : goal.meets_membership-requires-clause-expression_len_bound
meets_membership-requires-clause-expression_len_bound c = let r = membership-ready _ _ _ _ c.first_end-mid.ensures c.from-terms.ensures c.from-hedges.ensures c.requires.fitting_literal c.if-literal-eq5000.false in
    r.short

pub meets_membership-requires-clause-hedge_len_bound : goal.meets_membership-requires-clause-hedge_len_bound
meets_membership-requires-clause-hedge_len_bound c = let r = membership-ready _ _ _ _ c.first_end-mid.ensures c.from-terms.ensures c.from-hedges.ensures c.requires.fitting_literal c.if-literal-eq5000.false in
    r.fits

pub meets_membership-requires-clause-room_in_bounds : goal.meets_membership-requires-clause-room_in_bounds
meets_membership-requires-clause-room_in_bounds c = let r = membership-ready _ _ _ _ c.first_end-mid.ensures c.from-terms.ensures c.from-hedges.ensures c.requires.fitting_literal c.if-literal-eq5000.false in
    omega arith

pub returns : goal.returns
returns c = membership-says _ _ _ _ c.first_end-mid.ensures c.from-terms.ensures c.from-hedges.ensures c.if-literal-eq5000.false c.meets_membership.ensures
