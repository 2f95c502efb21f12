-- Each part of the test is so of the trees.
use mathlib.Core.Path.{ap}
use mathlib.Core.Bool.{not}
use Rattle.applies.specs.Parts.{is_run, is_last}
use Rattle.applies.proofs.Reading.{both, read, formed}
use Rattle.applies.proofs.membership.m3.Goals as goal

pub returns : goal.returns
returns c = λ before h R behind w. both c.and-2.ensures (read w.hedge is_run c.is_run.ensures) (both c.and.ensures (ap not (read w.hedge is_last c.is_last-last.ensures)) (formed w c.form_of.ensures 3000))
