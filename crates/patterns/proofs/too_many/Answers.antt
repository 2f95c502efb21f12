-- `patterns::too_many` meets its contract.
use mathlib.Core.Path.{ap₂, ◌∙◌}
use mathlib.Core.Bool.{Bool, ◌||◌}
use Rattle.patterns.proofs.too_many.Goals as goal

pub returns : goal.returns
returns c = c.or-2.ensures ∙ ap₂ (λ (a b : Bool). a || b) (c.or.ensures ∙ ap₂ (λ (a b : Bool). a || b) c.past.ensures c.past-2.ensures) c.past-3.ensures
