-- Each part of the test is so of the trees.
use Rattle.applies.specs.Parts.{is_run}
use Rattle.applies.proofs.Reading.{both, read, formed}
use Rattle.applies.proofs.membership.m7.Goals as goal

pub returns : goal.returns
returns c = λ before h R behind w. both c.and.ensures (read w.hedge is_run c.is_run.ensures) (formed w c.form_of.ensures 7002)
