-- The children stand where the search begins.
use mathlib.Core.Path.{ap, ◌∙◌}
use Rattle.std.specs.Prelude.{is_some}
use Rattle.views.proofs.Sides.{side-stands}
use Rattle.sharing.proofs.Shared.{shares}
use Rattle.applies.specs.Parts.{children_of}
use Rattle.applies.proofs.Reading.{children-here}
use Rattle.applies.proofs.equation.children_shared.Goals as goal

pub returns : goal.returns
returns c = λ before behind l r w e d.
    c.is_some.ensures ∙ ap is_some c.first_shared.ensures
    ∙ (shares (children_of l) (children_of r) (children-here l (side-stands w.left) e (ap (λ o. o.from) c.inner-c.ensures)) (children-here r (side-stands w.right) d (ap (λ o. o.from) c.inner-d.ensures))).found
