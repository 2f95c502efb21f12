-- Each part of the test is so of the trees.
use Rattle.applies.specs.Parts.{is_run, run_of}
use Rattle.applies.proofs.Reading.{both, read, same_runs}
use Rattle.applies.proofs.equation.del1.Goals as goal

pub returns : goal.returns
returns c = λ before behind l r w. both c.and-2.ensures (read w.left is_run c.is_run.ensures) (both c.and.ensures (read w.right is_run c.is_run-2.ensures) (same_runs (read w.left run_of c.run_of-p.ensures) (read w.right run_of c.run_of-q.ensures)))
