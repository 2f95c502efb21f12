-- Each part of the test is so of the trees.
use mathlib.Core.Path.{ap}
use mathlib.Core.Bool.{not}
use Rattle.applies.specs.Parts.{lone_run}
use Rattle.applies.proofs.Reading.{one, read, run-there}
use Rattle.applies.proofs.equation.run_too.Goals as goal

pub returns : goal.returns
returns c = λ before behind l r w. one c.or.ensures (ap not (read w.right lone_run c.lone_run-lone.ensures)) (run-there w w.right c.run_of.ensures c.run_word.ensures c.elsewhere-there.ensures)
