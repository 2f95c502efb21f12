-- Each part of the test is so of the trees.
use mathlib.Core.List.{◌++◌}
use mathlib.Core.Path.{ap}
use mathlib.Core.Bool.{not}
use Rattle.views.proofs.Sides.{side-stands}
use Rattle.applies.proofs.Reading.{both, guarded, shuffled-left, shuffled-right}
use Rattle.applies.proofs.equation.d1.Goals as goal

pub returns : goal.returns
returns c = λ before behind l r w.
    guarded c.and-2.ensures (c.shuffled-one.ensures before behind l r w)
    (λ y. both c.and.ensures (c.child_terms-terms.ensures r _ (side-stands w.right) (shuffled-right c.args.signature l r (before ++ behind) y)) (ap not (c.children_shared-shared.ensures before behind l r w (shuffled-left c.args.signature l r (before ++ behind) y) (shuffled-right c.args.signature l r (before ++ behind) y))))
