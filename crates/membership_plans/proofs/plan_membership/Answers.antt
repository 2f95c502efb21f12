-- Each arm has the plan of its place; the other places leave nothing.
use native.Mathlib.Omega.{arith}
use Rattle.plans.proofs.Ranking.{◌▸◌}
use Rattle.membership_plans.proofs.Dispatch.{dropped, for-R2, for-M1, for-M3, for-M4, for-M5, for-M6, for-M7, for-M10, for-M11, for-M12}
use Rattle.membership_plans.proofs.plan_membership.Goals as goal

pub returns-in_default : goal.returns-in_default
returns-in_default c = let m = c.in_default.in_default-own.rest in
    dropped c.requires.other (m.0.0.0.0.0.0.0.0.0.1 ▸ m.0.0.0.0.0.0.0.0.1 ▸ m.0.0.0.0.0.0.0.1 ▸ m.0.0.0.0.0.0.1 ▸ m.0.0.0.0.0.1 ▸ m.0.0.0.0.1 ▸ m.0.0.0.1 ▸ m.0.0.1 ▸ m.0.1 ▸ m.1 ▸ tt) c.plan_drop.ensures

pub returns-in-1 : goal.returns-in-1
returns-in-1 c = for-R2 (omega arith) (λ h R a. c.plan_r2.ensures)

pub returns-in-23 : goal.returns-in-23
returns-in-23 c = for-M1 (omega arith) (λ h R a. c.plan_m1.ensures)

pub returns-in-25 : goal.returns-in-25
returns-in-25 c = for-M3 (omega arith) (λ h R a. c.plan_m3.ensures)

pub returns-in-26 : goal.returns-in-26
returns-in-26 c = for-M4 (omega arith) (λ h R a. c.plan_m4.ensures)

pub returns-in-27 : goal.returns-in-27
returns-in-27 c = for-M5 (omega arith) c.plan_m5.ensures

pub returns-in-28 : goal.returns-in-28
returns-in-28 c = for-M6 (omega arith) c.halves.ensures.0

pub returns-in-29 : goal.returns-in-29
returns-in-29 c = for-M7 (omega arith) c.halves-in-29.ensures.1

pub returns-in-30 : goal.returns-in-30
returns-in-30 c = for-M10 (omega arith) (λ h R a. c.plan_m10.ensures)

pub returns-in-31 : goal.returns-in-31
returns-in-31 c = for-M11 (omega arith) (λ σ h R a. c.plan_m11.ensures)

pub returns-in-32 : goal.returns-in-32
returns-in-32 c = for-M12 (omega arith) c.plan_m12.ensures
