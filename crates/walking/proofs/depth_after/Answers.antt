-- `walking::depth_after` meets its contract: a bracket that opens, one that closes, and any other token.
use native.Mathlib.Omega.{arith}
use Rattle.walking.proofs.Elements.{behind-opens, behind-closes, behind-other}
use Rattle.walking.proofs.depth_after.Goals as goal

pub overflow_add-result : goal.overflow_add-result
overflow_add-result c = omega arith

pub returns-then-role-eq4 : goal.returns-then-role-eq4
returns-then-role-eq4 c = behind-opens _ _ c.if-role-eq4.true

pub overflow_sub-result : goal.overflow_sub-result
overflow_sub-result c = let p = c.requires.1 c.if-role-eq5.true in omega arith

pub returns-then-role-eq5 : goal.returns-then-role-eq5
returns-then-role-eq5 c = behind-closes _ _ c.if-role-eq4.false c.if-role-eq5.true

pub returns : goal.returns
returns c = behind-other _ _ c.if-role-eq4.false c.if-role-eq5.false
