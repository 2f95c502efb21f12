-- `node_at`: the two tests are of the word after the first element and of the word after the name.
use mathlib.Core.Path.{ap, ◌∙◌}
use lib.Dec.{eqb}
use lib.ListN.{get_or}
use Rattle.views.specs.declared.Look.TheVariants.{Node}
use Rattle.views.specs.Places.{node_at}
use Rattle.views.proofs.node_at.Goals as goal

pub returns : goal.returns
unfolding node_at
returns c = let a = c.args in
    ap (λ y. Node a.name (eqb y 0) (eqb c.word-z.result 0)) c.word-y.ensures ∙ ap (λ z. Node a.name (eqb (get_or a.k.now a.rest 0) 0) (eqb z 0)) c.word-z.ensures
