-- The tests on two sides that begin with functors lead to their rank.
use mathlib.Core.Path.{sym, ◌∙◌}
use mathlib.Core.List.{◌++◌}
use Rattle.views.proofs.Same.{same-sides}
use Rattle.equations.proofs.Looked.{both}
use Rattle.equations.proofs.Names.{lone-nodes}
use Rattle.equations.proofs.Nodes.{nodes-same, nodes-longer, nodes-single}
use Rattle.equations.proofs.functors.rank_nodes.Goals as goal

pub returns-then-same_part : goal.returns-then-same_part
returns-then-same_part c = λ F G h s d t e i j f k l before behind w q. nodes-same c.args.signature (before ++ behind) F h s G d t (sym (same-sides w.left w.right) ∙ sym c.same_part.ensures ∙ c.if-same_part.true)

pub returns-then-and : goal.returns-then-and
returns-then-and c = λ F G h s d t e i j f k l before behind w q.
    nodes-single c.args.signature (before ++ behind) F h s G d t (sym (same-sides w.left w.right) ∙ sym c.same_part.ensures ∙ c.if-same_part.false)
    (sym (both c.and.ensures i k) ∙ c.if-and.true)
    (c.rank_functors.ensures before behind F G h s d t w (lone-nodes F G h d s t (sym (both c.and.ensures i k) ∙ c.if-and.true) q) e f (both c.and-both.ensures j l))

pub returns : goal.returns
returns c = λ F G h s d t e i j f k l before behind w q.
    nodes-longer c.args.signature (before ++ behind) F h s G d t (sym (same-sides w.left w.right) ∙ sym c.same_part.ensures ∙ c.if-same_part.false)
    (sym (both c.and.ensures i k) ∙ c.if-and.false)
