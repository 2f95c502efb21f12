-- Case by case.
use mathlib.Core.Path.{sym, ap, ◌∙◌}
use Rattle.alone.specs.Lone.{bare_functor}
use Rattle.alone.proofs.bare_functor.Goals as goal

pub returns-in-Node : goal.returns-in-Node
returns-in-Node c = c.and.ensures ∙ ap bare_functor (sym c.in-Node.is)
