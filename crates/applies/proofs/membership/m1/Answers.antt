-- Each part of the test is so of the trees.
use mathlib.Core.Path.{ap}
use mathlib.Core.Bool.{not}
use Rattle.views.proofs.Sides.{side-stands}
use Rattle.applies.specs.Parts.{is_empty}
use Rattle.applies.proofs.Reading.{both, read, formed}
use Rattle.applies.proofs.membership.m1.Goals as goal

pub returns : goal.returns
returns c = λ before h R behind w. both c.and-2.ensures (ap not (read w.hedge is_empty c.is_empty-none.ensures)) (both c.and.ensures (ap not (c.has_term-terms.ensures.0 h _ (side-stands w.hedge))) (formed w c.form_of.ensures 7000))
