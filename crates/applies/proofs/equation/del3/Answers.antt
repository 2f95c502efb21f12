-- Each part of the test is so of the trees.
use mathlib.Core.Path.{◌∙◌}
use Rattle.applies.specs.Parts.{lone_run}
use Rattle.applies.proofs.Reading.{both, read, spotted}
use Rattle.applies.proofs.equation.del3.Goals as goal

pub returns : goal.returns
returns c = λ before behind l r w. both c.and.ensures (read w.left lone_run c.lone_run.ensures) (c.is_some.ensures ∙ spotted w c.run_of.ensures c.inside-spot.ensures.0)
