-- Each part of the test is so of the trees.
use Rattle.applies.specs.Parts.{is_empty}
use Rattle.applies.proofs.Reading.{both, read, here}
use Rattle.applies.proofs.membership.r2.Goals as goal

pub returns : goal.returns
returns c = λ before h R behind w. both c.and.ensures (read w.hedge is_empty c.is_empty.ensures) (c.pass-p.ensures.each R _ (here w)).null
