-- Each part of the test is so of the trees.
use mathlib.Core.Path.{ap, ◌∙◌}
use mathlib.Core.Bool.{not}
use Rattle.applies.specs.Parts.{is_run, is_last}
use Rattle.applies.proofs.Reading.{both, read, ahead}
use Rattle.applies.proofs.equation.e4.Goals as goal

pub returns : goal.returns
returns c = λ before behind l r w. both c.and-2.ensures (read w.left is_run c.is_run.ensures) (both c.and.ensures (ap not (read w.left is_last c.is_last-last.ensures)) (c.is_some.ensures ∙ ahead w c.run_of.ensures c.up_to-ahead.ensures.0))
