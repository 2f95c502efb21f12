-- By the place of the symbol.
use mathlib.Core.Path.{refl, subst}
use Prim.Native.Nat.{◌<◌, ◌≤◌}
use Rattle.state_classes.proofs.Classing.{state-first, state-symbol, state-none}
use Rattle.state_classes.proofs.is_state.Goals as goal

pub returns-then-t-first : goal.returns-then-t-first
returns-then-t-first c = state-first c.if-t-first.true

pub returns-then-word-lt7000 : goal.returns-then-word-lt7000
returns-then-word-lt7000 c = state-symbol c.if-t-first.false refl (subst (λ x. x < 7000) c.word.ensures c.if-word-lt7000.true)

pub returns : goal.returns
returns c = state-none c.if-t-first.false refl (subst (λ x. 7000 ≤ x) c.word.ensures c.if-word-lt7000.false)
