-- The look of the right side leads to the rank.
use mathlib.Core.Path.{sym, ◌∙◌}
use mathlib.Core.List.{◌++◌}
use Rattle.language.specs.Trees.{tvar, tv}
use Rattle.rules.specs.Looks.{under}
use Rattle.views.proofs.Sides.{side-stands}
use Rattle.equations.specs.Ranked.{Ranks}
use Rattle.equations.proofs.Looked.{at-term, at-node, both-on}
use Rattle.equations.proofs.Variables.{term-empty, term-run, term_runs}
use Rattle.equations.proofs.terms.rank_term.Goals as goal

pub returns-then-hidden : goal.returns-then-hidden
returns-then-hidden c = λ s r e σ before behind w q. term-run σ (before ++ behind) c.args.x s r (sym c.in-Run.is ∙ w.right.look) (sym (both-on (under (tv c.args.x) r) (c.hidden.ensures r _ w.left.fine.0 (side-stands w.right)) e) ∙ c.if-hidden.true)

pub returns-in-Empty : goal.returns-in-Empty
returns-in-Empty c = λ s r e σ before behind w q. term-empty σ (before ++ behind) c.args.x s r (sym c.in-Empty.is ∙ w.right.look)

pub returns-in-Term : goal.returns-in-Term
returns-in-Term c = λ s r e σ before behind w q.
    at-term (λ m. Ranks c.args.k.now c.args.table.now c.args.v (tvar c.args.x s) m c.rank_term_term.result) r (sym c.in-Term.is ∙ w.right.look) (λ t f. c.rank_term_term.ensures s t e f) σ before behind w q

pub returns-else-hidden : goal.returns-else-hidden
returns-else-hidden c = λ s r e σ before behind w q. term_runs σ (before ++ behind) c.args.x s r (sym c.in-Run.is ∙ w.right.look) (sym (both-on (under (tv c.args.x) r) (c.hidden.ensures r _ w.left.fine.0 (side-stands w.right)) e) ∙ c.if-hidden.false)

pub returns-in-Node : goal.returns-in-Node
returns-in-Node c = λ s r e σ before behind w q.
    at-node (λ m. Ranks c.args.k.now c.args.table.now c.args.v (tvar c.args.x s) m c.rank_term_node.result) r (sym c.in-Node.is ∙ w.right.look) (λ G d t _ f _. c.rank_term_node.ensures s G d t e f) σ before behind w q
