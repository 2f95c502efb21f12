-- The functor on the left leads to the rank.
use mathlib.Core.Path.{◌≡◌, sym, ◌∙◌}
use mathlib.Core.List.{◌++◌}
use Rattle.language.specs.Trees.{node}
use Rattle.views.specs.Views.{Sees}
use Rattle.equations.specs.Rank.{functors}
use Rattle.equations.proofs.Looked.{at_symbol}
use Rattle.equations.proofs.Names.{blank-functors}
use Rattle.equations.proofs.functors.rank_functors.Goals as goal

pub returns-in-Symbol : goal.returns-in-Symbol
returns-in-Symbol c = λ before behind F G h y d t w u p q b.
    let a = c.args in
    at_symbol (λ F. Sees a.k.now a.v before (node F h y) (node G d t) behind → c.rank_symbol.result ≡ functors a.signature (before ++ behind) F h G d) F (sym c.in-Symbol.is ∙ p)
    (λ w. c.rank_symbol.ensures before behind G h y d t w q) w

pub returns-in-Blank : goal.returns-in-Blank
returns-in-Blank c = λ before behind F G h y d t w u p q b.
    blank-functors c.args.signature (before ++ behind) F G h d (sym c.in-Blank.is ∙ p) u w.left.fine.0 (λ u x. c.rank_blank.ensures (before ++ behind) G h d u x q w.right.fine.0 b)
