-- The children stand where the walk begins.
use mathlib.Core.Path.{ap}
use Rattle.applies.specs.Parts.{children_of}
use Rattle.applies.proofs.Reading.{children-here}
use Rattle.applies.proofs.equation.child_terms.Goals as goal

pub returns : goal.returns
returns c = λ h beyond s e. (c.all_terms-terms.ensures.0 (children_of h) _ (children-here h s e (ap (λ o. o.from) c.inner-c.ensures))).all
