-- Each arm asks the test of its place; at the other places no rule of this kind stands.
use native.Mathlib.Omega.{arith}
use mathlib.Core.List.{◌++◌}
use Rattle.rules.specs.Places.{at_r1, at_f1, at_f2, at_f3, at_f4, at_del1, at_del2, at_del3, at_d1, at_d2, at_d0, at_e1, at_e2, at_e3, at_e4, at_e5, at_e6, at_e7}
use Rattle.plans.proofs.Ranking.{◌▸◌}
use Rattle.applies.specs.Tests.{test_r1, test_f1, test_f2, test_f3, test_f4, test_del1, test_del2, test_del3, test_d1, test_d2, test_d0, test_e1, test_e2, test_e3, test_e4, test_e5, test_e6, test_e7}
use Rattle.applies.proofs.Laws.{equation-laws}
use Rattle.applies.proofs.Named.{asks, no-equation}
use Rattle.applies.proofs.equation_applies.Goals as goal

pub returns-in-0 : goal.returns-in-0
returns-in-0 c = asks c.args.signature at_r1 test_r1 (λ K l r. (equation-laws c.args.signature K l r).0) (omega arith) c.r1.ensures

pub returns-in-3 : goal.returns-in-3
returns-in-3 c = asks c.args.signature at_f1 test_f1 (λ K l r. (equation-laws c.args.signature K l r).1.0) (omega arith) c.f1.ensures

pub returns-in-4 : goal.returns-in-4
returns-in-4 c = asks c.args.signature at_f2 test_f2 (λ K l r. (equation-laws c.args.signature K l r).1.1.0) (omega arith) c.f2.ensures

pub returns-in-5 : goal.returns-in-5
returns-in-5 c = asks c.args.signature at_f3 test_f3 (λ K l r. (equation-laws c.args.signature K l r).1.1.1.0) (omega arith) c.f3.ensures

pub returns-in-6 : goal.returns-in-6
returns-in-6 c = asks c.args.signature at_f4 test_f4 (λ K l r. (equation-laws c.args.signature K l r).1.1.1.1.0) (omega arith) c.f4.ensures

pub returns-in-10 : goal.returns-in-10
returns-in-10 c = asks c.args.signature at_del1 test_del1 (λ K l r. (equation-laws c.args.signature K l r).1.1.1.1.1.0) (omega arith) c.del1.ensures

pub returns-in-11 : goal.returns-in-11
returns-in-11 c = asks c.args.signature at_del2 (test_del2 c.args.signature) (λ K l r. (equation-laws c.args.signature K l r).1.1.1.1.1.1.0) (omega arith) c.del2.ensures

pub returns-in-12 : goal.returns-in-12
returns-in-12 c = asks c.args.signature at_del3 test_del3 (λ K l r. (equation-laws c.args.signature K l r).1.1.1.1.1.1.1.0) (omega arith) c.del3.ensures

pub returns-in-13 : goal.returns-in-13
returns-in-13 c = asks c.args.signature at_d1 (test_d1 c.args.signature) (λ K l r. (equation-laws c.args.signature K l r).1.1.1.1.1.1.1.1.0) (omega arith) c.d1.ensures

pub returns-in-14 : goal.returns-in-14
returns-in-14 c = asks c.args.signature at_d2 test_d2 (λ K l r. (equation-laws c.args.signature K l r).1.1.1.1.1.1.1.1.1.0) (omega arith) c.d2.ensures

pub returns-in-15 : goal.returns-in-15
returns-in-15 c = asks c.args.signature at_d0 (test_d0 c.args.signature) (λ K l r. (equation-laws c.args.signature K l r).1.1.1.1.1.1.1.1.1.1.0) (omega arith) c.d0.ensures

pub returns-in-16 : goal.returns-in-16
returns-in-16 c = asks c.args.signature at_e1 test_e1 (λ K l r. (equation-laws c.args.signature K l r).1.1.1.1.1.1.1.1.1.1.1.0) (omega arith) c.e1.ensures

pub returns-in-17 : goal.returns-in-17
returns-in-17 c = asks c.args.signature at_e2 test_e2 (λ K l r. (equation-laws c.args.signature K l r).1.1.1.1.1.1.1.1.1.1.1.1.0) (omega arith) c.e2.ensures

pub returns-in-18 : goal.returns-in-18
returns-in-18 c = asks c.args.signature at_e3 test_e3 (λ K l r. (equation-laws c.args.signature K l r).1.1.1.1.1.1.1.1.1.1.1.1.1.0) (omega arith) c.e3.ensures

pub returns-in-19 : goal.returns-in-19
returns-in-19 c = asks c.args.signature at_e4 test_e4 (λ K l r. (equation-laws c.args.signature K l r).1.1.1.1.1.1.1.1.1.1.1.1.1.1.0) (omega arith) c.e4.ensures

pub returns-in-20 : goal.returns-in-20
returns-in-20 c = asks c.args.signature at_e5 test_e5 (λ K l r. (equation-laws c.args.signature K l r).1.1.1.1.1.1.1.1.1.1.1.1.1.1.1.0) (omega arith) c.e5.ensures

pub returns-in-21 : goal.returns-in-21
returns-in-21 c = asks c.args.signature at_e6 test_e6 (λ K l r. (equation-laws c.args.signature K l r).1.1.1.1.1.1.1.1.1.1.1.1.1.1.1.1.0) (omega arith) c.e6.ensures

pub returns-in-22 : goal.returns-in-22
returns-in-22 c = asks c.args.signature at_e7 (test_e7 c.args.signature) (λ K l r. (equation-laws c.args.signature K l r).1.1.1.1.1.1.1.1.1.1.1.1.1.1.1.1.1.0) (omega arith) c.e7.ensures

pub returns-in_default : goal.returns-in_default
returns-in_default c = let m = c.in_default.in_default-own.rest in λ before behind l r w. no-equation c.args.signature (before ++ behind) l r c.args.rank (m.0.0.0.0.0.0.0.0.0.0.0.0.0.0.0.0.0.1 ▸ m.0.0.0.0.0.0.0.0.0.0.0.0.0.0.0.0.1 ▸ m.0.0.0.0.0.0.0.0.0.0.0.0.0.0.0.1 ▸ m.0.0.0.0.0.0.0.0.0.0.0.0.0.0.1 ▸ m.0.0.0.0.0.0.0.0.0.0.0.0.0.1 ▸ m.0.0.0.0.0.0.0.0.0.0.0.0.1 ▸ m.0.0.0.0.0.0.0.0.0.0.0.1 ▸ m.0.0.0.0.0.0.0.0.0.0.1 ▸ m.0.0.0.0.0.0.0.0.0.1 ▸ m.0.0.0.0.0.0.0.0.1 ▸ m.0.0.0.0.0.0.0.1 ▸ m.0.0.0.0.0.0.1 ▸ m.0.0.0.0.0.1 ▸ m.0.0.0.0.1 ▸ m.0.0.0.1 ▸ m.0.0.1 ▸ m.0.1 ▸ m.1 ▸ tt)
