-- By whether it is the word.
use mathlib.Core.Path.{sym, ◌∙◌}
use Rattle.applies.proofs.Others.{one-here, none_here}
use Rattle.applies.proofs.counted.one_if.Goals as goal

pub returns-then-wide-x : goal.returns-then-wide-x
returns-then-wide-x c = one-here _ _ (sym c.wide.ensures ∙ c.if-wide-x.true)

pub returns-else-wide-x : goal.returns-else-wide-x
returns-else-wide-x c = none_here _ _ (λ z. c.if-wide-x.false (c.wide.ensures ∙ z))
