-- Each part of the test is so of the trees.
use mathlib.Core.Path.{ap}
use mathlib.Core.Bool.{not}
use Rattle.applies.specs.Parts.{lone_run}
use Rattle.applies.proofs.Reading.{both, read, run-held, run-there}
use Rattle.applies.proofs.equation.e2.Goals as goal

pub returns : goal.returns
returns c = λ before behind l r w. both c.and-3.ensures (read w.left lone_run c.lone_run.ensures) (both c.and-2.ensures (ap not (run-held w c.run_of.ensures c.run_word-x.ensures c.stands-held.ensures)) (both c.and.ensures (run-there w w.left c.run_of.ensures c.run_word-x.ensures c.elsewhere-there.ensures) (c.run_too.ensures before behind l r w)))
