use Prim.Native.Nat.{◌-◌}
use mathlib.Core.Path.{refl, sym, ◌∙◌}
use native.Mathlib.Omega.{arith}
use Rattle.undeclared.proofs.Scans.{scan-done, scan-on, scan-here}
use Rattle.undeclared.proofs.find_undeclared.Goals as goal

pub loop-i-init : goal.loop-i-init
loop-i-init c = refl

pub returns-then-not-is_declared : goal.returns-then-not-is_declared
returns-then-not-is_declared c = scan-here _ _ _ (omega arith) (sym c.is_declared.ensures ∙ c.if-not-is_declared.true) ∙ c.loop-i.invariant

pub loop-i-preserved : goal.loop-i-preserved
loop-i-preserved c = scan-on _ _ _ (omega arith) (sym c.is_declared.ensures ∙ c.if-not-is_declared.false) ∙ c.loop-i.invariant

pub returns : goal.returns
returns c = scan-done _ _ _ (omega arith) ∙ c.loop-i.invariant
