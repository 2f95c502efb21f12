-- Each part of the test is so of the trees.
use mathlib.Core.Path.{ap}
use mathlib.Core.Bool.{not}
use Rattle.views.proofs.Sides.{side-stands}
use Rattle.applies.specs.Parts.{is_run, is_last}
use Rattle.applies.proofs.Reading.{both, read, run-held}
use Rattle.applies.proofs.equation.e3.Goals as goal

pub returns : goal.returns
returns c = λ before behind l r w. both c.and-3.ensures (read w.left is_run c.is_run.ensures) (both c.and-2.ensures (ap not (read w.left is_last c.is_last-last.ensures)) (both c.and.ensures (c.all_terms-terms.ensures.0 r _ (side-stands w.right)).all (ap not (run-held w c.run_of.ensures c.run_word.ensures c.stands-held.ensures))))
