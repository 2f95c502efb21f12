-- Each arm has the plan of its place; the other places are those of `plan_elimination`.
use native.Mathlib.Omega.{arith}
use Rattle.equation_recipes.proofs.Dispatch.{for-R1, for-Del1, for-Del2, for-D1, for-D2, for-D0}
use Rattle.equation_plans.proofs.plan_equation.Goals as goal

pub plan_elimination-requires : goal.plan_elimination-requires
plan_elimination-requires c = let m = c.in_default.in_default-own.rest in
    record {
      rule_applies = c.requires;
      further = record { not-R1 = m.0.0.0.0.0.1; not-Del1 = m.0.0.0.0.1; not-Del2 = m.0.0.0.1; not-D1 = m.0.0.1; not-D2 = m.0.1; not-D0 = m.1 };
    }

pub returns-in-0 : goal.returns-in-0
returns-in-0 c = for-R1 (omega arith) (λ l r a. c.plan_r1.ensures)

pub returns-in-10 : goal.returns-in-10
returns-in-10 c = for-Del1 (omega arith) (λ l r a. c.plan_del1.ensures)

pub returns-in-11 : goal.returns-in-11
returns-in-11 c = for-Del2 (omega arith) (λ l r a. c.plan_del2.ensures)

pub returns-in-13 : goal.returns-in-13
returns-in-13 c = for-D1 (omega arith) (c.plan_d1.ensures _)

pub returns-in-14 : goal.returns-in-14
returns-in-14 c = for-D2 (omega arith) (λ l r a. c.plan_d2.ensures)

pub returns-in-15 : goal.returns-in-15
returns-in-15 c = for-D0 (omega arith) (λ l r a. c.plan_d0.ensures)

pub returns-in_default : goal.returns-in_default
returns-in_default c = c.plan_elimination.ensures
