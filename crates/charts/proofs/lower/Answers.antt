-- By the place after the first part.
use mathlib.Core.Path.{refl, sym, ◌∙◌}
use mathlib.Core.Bool.{true, false}
use Rattle.charts.proofs.Levels.{lowered}
use Rattle.charts.proofs.lower.Goals as goal

pub returns-then-later : goal.returns-then-later
returns-then-later c = lowered true c.part-a.ensures (sym c.if-later.true ∙ c.later.ensures) refl

pub returns-else-later : goal.returns-else-later
returns-else-later c = lowered false c.part-a.ensures (sym c.if-later.false ∙ c.later.ensures) refl
