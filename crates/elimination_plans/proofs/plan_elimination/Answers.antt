-- Each arm has the plan of its place; the other places leave nothing.
use native.Mathlib.Omega.{arith}
use Rattle.plans.proofs.Ranking.{◌▸◌}
use Rattle.equation_recipes.proofs.Dispatch.{dropped, for-Del3, for-E1, for-E2, for-E3, for-E4, for-E5, for-E6, for-E7}
use Rattle.elimination_plans.proofs.plan_elimination.Goals as goal

pub returns-in_default : goal.returns-in_default
returns-in_default c = let m = c.in_default.in_default-own.rest in
    let f = c.requires.further in
    dropped (f.not-R1 ▸ f.not-Del1 ▸ f.not-Del2 ▸ m.0.0.0.0.0.0.0.1 ▸ f.not-D1 ▸ f.not-D2 ▸ f.not-D0 ▸ m.0.0.0.0.0.0.1 ▸ m.0.0.0.0.0.1 ▸ m.0.0.0.0.1 ▸ m.0.0.0.1 ▸ m.0.0.1 ▸ m.0.1 ▸ m.1 ▸ tt) c.plan_drop.ensures

pub returns-in-12 : goal.returns-in-12
returns-in-12 c = for-Del3 (omega arith) c.plan_del3.ensures

pub returns-in-16 : goal.returns-in-16
returns-in-16 c = for-E1 (omega arith) (λ l r a. c.plan_e1.ensures)

pub returns-in-17 : goal.returns-in-17
returns-in-17 c = for-E2 (omega arith) (λ l r a. c.plan_e1-in-17.ensures)

pub returns-in-18 : goal.returns-in-18
returns-in-18 c = for-E3 (omega arith) c.plan_e3.ensures

pub returns-in-19 : goal.returns-in-19
returns-in-19 c = for-E4 (omega arith) c.plan_e4.ensures

pub returns-in-20 : goal.returns-in-20
returns-in-20 c = for-E5 (omega arith) (λ l r a. c.plan_e5.ensures)

pub returns-in-21 : goal.returns-in-21
returns-in-21 c = for-E6 (omega arith) (λ l r a. c.plan_e6.ensures)

pub returns-in-22 : goal.returns-in-22
returns-in-22 c = for-E7 (omega arith) (λ l r a. c.plan_e7.ensures)
