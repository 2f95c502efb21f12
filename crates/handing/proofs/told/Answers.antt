-- `handing::told` meets its contract.
use mathlib.Core.Path.{sym, ap, ◌∙◌}
use Prim.Native.Nat.{◌+◌}
use Rattle.handing.proofs.Handed.{number-value, number-refusal}
use Rattle.handing.proofs.told.Goals as goal

pub returns-then-number-eq0 : goal.returns-then-number-eq0
returns-then-number-eq0 c = ap (λ v. 100 + v) c.from.ensures ∙ sym (number-value _ _ c.if-number-eq0.true)

pub returns : goal.returns
returns c = c.from-2.ensures ∙ sym (number-refusal _ _ c.if-number-eq0.false)
