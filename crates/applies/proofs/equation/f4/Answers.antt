-- Each part of the test is so of the trees.
use Rattle.views.proofs.Sides.{side-stands}
use Rattle.applies.specs.Parts.{is_empty}
use Rattle.applies.proofs.Reading.{both, read}
use Rattle.applies.proofs.equation.f4.Goals as goal

pub returns : goal.returns
returns c = λ before behind l r w. both c.and.ensures (read w.left is_empty c.is_empty.ensures) (c.has_term-terms.ensures.0 r _ (side-stands w.right))
