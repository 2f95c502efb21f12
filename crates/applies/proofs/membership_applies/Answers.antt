-- Each arm asks the test of its place; at the other places no rule of this kind stands.
use native.Mathlib.Omega.{arith}
use mathlib.Core.List.{◌++◌}
use Rattle.rules.specs.Places.{at_r2, at_f5, at_f6, at_f7, at_m1, at_m2, at_m3, at_m4, at_m5, at_m6, at_m7, at_m10, at_m11, at_m12}
use Rattle.plans.proofs.Ranking.{◌▸◌}
use Rattle.applies.specs.Tests.{test_r2, test_f5, test_f6, test_f7, test_m1, test_m2, test_m3, single_in, test_m7, test_m10, test_m11, test_m12}
use Rattle.applies.proofs.Laws.{membership-laws}
use Rattle.applies.proofs.Named.{asks-in, no-membership}
use Rattle.applies.proofs.membership_applies.Goals as goal

pub returns-in-1 : goal.returns-in-1
returns-in-1 c = asks-in c.args.signature at_r2 test_r2 (λ K h R. (membership-laws c.args.signature K h R).0) (omega arith) c.r2.ensures

pub returns-in-7 : goal.returns-in-7
returns-in-7 c = asks-in c.args.signature at_f5 test_f5 (λ K h R. (membership-laws c.args.signature K h R).1.0) (omega arith) c.f5.ensures

pub returns-in-8 : goal.returns-in-8
returns-in-8 c = asks-in c.args.signature at_f6 test_f6 (λ K h R. (membership-laws c.args.signature K h R).1.1.0) (omega arith) c.f6.ensures

pub returns-in-9 : goal.returns-in-9
returns-in-9 c = asks-in c.args.signature at_f7 test_f7 (λ K h R. (membership-laws c.args.signature K h R).1.1.1.0) (omega arith) c.f7.ensures

pub returns-in-23 : goal.returns-in-23
returns-in-23 c = asks-in c.args.signature at_m1 test_m1 (λ K h R. (membership-laws c.args.signature K h R).1.1.1.1.0) (omega arith) c.m1.ensures

pub returns-in-24 : goal.returns-in-24
returns-in-24 c = asks-in c.args.signature at_m2 test_m2 (λ K h R. (membership-laws c.args.signature K h R).1.1.1.1.1.0) (omega arith) c.m2.ensures

pub returns-in-25 : goal.returns-in-25
returns-in-25 c = asks-in c.args.signature at_m3 test_m3 (λ K h R. (membership-laws c.args.signature K h R).1.1.1.1.1.1.0) (omega arith) c.m3.ensures

pub returns-in-26 : goal.returns-in-26
returns-in-26 c = asks-in c.args.signature at_m4 (single_in 7003) (λ K h R. (membership-laws c.args.signature K h R).1.1.1.1.1.1.1.0) (omega arith) c.single_in.ensures

pub returns-in-27 : goal.returns-in-27
returns-in-27 c = asks-in c.args.signature at_m5 (single_in 7001) (λ K h R. (membership-laws c.args.signature K h R).1.1.1.1.1.1.1.1.0) (omega arith) c.single_in-in-27.ensures

pub returns-in-28 : goal.returns-in-28
returns-in-28 c = asks-in c.args.signature at_m6 (single_in 7002) (λ K h R. (membership-laws c.args.signature K h R).1.1.1.1.1.1.1.1.1.0) (omega arith) c.single_in-in-28.ensures

pub returns-in-29 : goal.returns-in-29
returns-in-29 c = asks-in c.args.signature at_m7 test_m7 (λ K h R. (membership-laws c.args.signature K h R).1.1.1.1.1.1.1.1.1.1.0) (omega arith) c.m7.ensures

pub returns-in-30 : goal.returns-in-30
returns-in-30 c = asks-in c.args.signature at_m10 test_m10 (λ K h R. (membership-laws c.args.signature K h R).1.1.1.1.1.1.1.1.1.1.1.0) (omega arith) c.m10.ensures

pub returns-in-31 : goal.returns-in-31
returns-in-31 c = asks-in c.args.signature at_m11 (test_m11 c.args.signature) (λ K h R. (membership-laws c.args.signature K h R).1.1.1.1.1.1.1.1.1.1.1.1.0) (omega arith) c.m11.ensures

pub returns-in-32 : goal.returns-in-32
returns-in-32 c = asks-in c.args.signature at_m12 (test_m12 c.args.signature) (λ K h R. (membership-laws c.args.signature K h R).1.1.1.1.1.1.1.1.1.1.1.1.1.0) (omega arith) c.m12.ensures

pub returns-in_default : goal.returns-in_default
returns-in_default c = let m = c.in_default.in_default-own.rest in λ before h R behind w. no-membership c.args.signature (before ++ behind) h R c.args.rank (m.0.0.0.0.0.0.0.0.0.0.0.0.0.1 ▸ m.0.0.0.0.0.0.0.0.0.0.0.0.1 ▸ m.0.0.0.0.0.0.0.0.0.0.0.1 ▸ m.0.0.0.0.0.0.0.0.0.0.1 ▸ m.0.0.0.0.0.0.0.0.0.1 ▸ m.0.0.0.0.0.0.0.0.1 ▸ m.0.0.0.0.0.0.0.1 ▸ m.0.0.0.0.0.0.1 ▸ m.0.0.0.0.0.1 ▸ m.0.0.0.0.1 ▸ m.0.0.0.1 ▸ m.0.0.1 ▸ m.0.1 ▸ m.1 ▸ tt)
