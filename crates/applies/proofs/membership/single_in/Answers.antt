-- Each part of the test is so of the trees.
use Rattle.applies.specs.Parts.{single}
use Rattle.applies.proofs.Reading.{both, read, formed}
use Rattle.applies.proofs.membership.single_in.Goals as goal

pub returns : goal.returns
returns c = λ before h R behind w. both c.and.ensures (read w.hedge single c.single.ensures) (formed w c.form_of.ensures c.args.x)
