-- Each end moves by one word.
use Prim.Native.Nat.{ℕ}
use mathlib.Core.Path.{ap, ◌∙◌}
use Rattle.plans.specs.declared.Within.{Within}
use Rattle.plans.proofs.inner.Goals as goal

abbrev part : ℕ → ℕ → Within
part from to = record { from = from; to = to }

pub returns : goal.returns
returns c = ap (λ (i : ℕ). part i c.saturating_sub-end.result) c.forth-start.ensures ∙ ap (part _) c.saturating_sub-end.ensures
