-- The look of the right side, and the tests, lead to the rank.
use mathlib.Core.Path.{sym, ◌∙◌}
use mathlib.Core.List.{◌++◌}
use Rattle.language.specs.Trees.{node}
use Rattle.equations.specs.Ranked.{RanksBy}
use Rattle.equations.proofs.Looked.{at-node}
use Rattle.equations.proofs.Nodes.{node-empty, node-run, node-term, node-terms}
use Rattle.equations.proofs.functors.rank_node.Goals as goal

pub returns-then-and : goal.returns-then-and
returns-then-and c = λ F h s r e i j before behind w q.
    node-term c.args.signature (before ++ behind) F h s r (sym c.in-Term.is ∙ w.right.look) i c.and.ensures c.if-and.true

pub returns-in-Empty : goal.returns-in-Empty
returns-in-Empty c = λ F h s r e i j before behind w q. node-empty c.args.signature (before ++ behind) F h s r (sym c.in-Empty.is ∙ w.right.look)

pub returns-in-Run : goal.returns-in-Run
returns-in-Run c = λ F h s r e i j before behind w q. node-run c.args.signature (before ++ behind) F h s r (sym c.in-Run.is ∙ w.right.look)

pub returns-else-and : goal.returns-else-and
returns-else-and c = λ F h s r e i j before behind w q.
    node-terms c.args.signature (before ++ behind) F h s r (sym c.in-Term.is ∙ w.right.look) i c.and.ensures c.if-and.false

pub returns-in-Node : goal.returns-in-Node
returns-in-Node c = λ F h s r e i j before behind w q.
    let a = c.args in
    at-node (λ m. RanksBy a.signature a.k.now a.table.now a.v (node F h s) m c.rank_nodes.result) r (sym c.in-Node.is ∙ w.right.look) (λ G d t f k l. c.rank_nodes.ensures F G h s d t e i j f k l) before behind w q
