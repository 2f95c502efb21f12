-- Each part of the test is so of the trees.
use mathlib.Core.List.{◌++◌}
use Rattle.applies.proofs.Reading.{guarded, shuffled-left, shuffled-right}
use Rattle.applies.proofs.equation.del2.Goals as goal

pub returns : goal.returns
returns c = λ before behind l r w. guarded c.and.ensures (c.shuffled-one.ensures before behind l r w) (λ y. c.children_shared.ensures before behind l r w (shuffled-left c.args.signature l r (before ++ behind) y) (shuffled-right c.args.signature l r (before ++ behind) y))
