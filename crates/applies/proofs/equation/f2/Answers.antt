-- Each part of the test is so of the trees.
use Rattle.views.proofs.Sides.{side-stands}
use Rattle.applies.specs.Parts.{lone_run}
use Rattle.applies.proofs.Reading.{both, read, run-held}
use Rattle.applies.proofs.equation.f2.Goals as goal

pub returns : goal.returns
returns c = λ before behind l r w. both c.and-2.ensures (read w.left lone_run c.lone_run.ensures) (both c.and.ensures (c.has_term-terms.ensures.0 r _ (side-stands w.right)) (run-held w c.run_of.ensures c.run_word.ensures c.stands-held.ensures))
