-- The expression's emptiness decides.
use mathlib.Core.Path.{ap, sym, ◌∙◌}
use Rattle.language.specs.Kinds.{pick}
use Rattle.rules.specs.Places.{at_r2, at_f6}
use Rattle.memberships.proofs.rank_empty.Goals as goal

pub returns-then-null : goal.returns-then-null
returns-then-null c = λ R beyond h. ap (λ b. pick b at_r2 at_f6) (sym c.if-null.true ∙ (c.pass-p.ensures.each R beyond h).null)

pub returns-else-null : goal.returns-else-null
returns-else-null c = λ R beyond h. ap (λ b. pick b at_r2 at_f6) (sym c.if-null.false ∙ (c.pass-p.ensures.each R beyond h).null)
