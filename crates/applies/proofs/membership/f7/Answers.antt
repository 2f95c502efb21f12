-- Each part of the test is so of the trees.
use Rattle.views.proofs.Sides.{side-stands}
use Rattle.applies.proofs.Reading.{both, formed}
use Rattle.applies.proofs.membership.f7.Goals as goal

pub returns : goal.returns
returns c = λ before h R behind w. both c.and.ensures (c.has_term-terms.ensures.0 h _ (side-stands w.hedge)) (formed w c.form_of.ensures 7000)
