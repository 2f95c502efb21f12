-- The look of the left side leads to the rank.
use mathlib.Core.Path.{sym, ◌∙◌}
use mathlib.Core.List.{◌++◌}
use Rattle.equations.specs.Ranked.{Ranks, RanksBy}
use Rattle.equations.proofs.Decisions.{rank-law}
use Rattle.equations.proofs.Looked.{at-empty, at-term, at-run, at-node}
use Rattle.equations.proofs.rank_equation.Goals as goal

pub returns-in-Empty : goal.returns-in-Empty
returns-in-Empty c = λ before behind l r w q.
    at-empty (λ m. Ranks c.args.k.now c.args.table.now c.args.v m r c.rank_empty.result) l (sym c.in-Empty.is ∙ w.left.look) (c.rank_empty.ensures r c.args.table.now) c.args.signature before behind w q ∙ sym (rank-law c.args.signature (before ++ behind) l r)

pub returns-in-Term : goal.returns-in-Term
returns-in-Term c = λ before behind l r w q.
    at-term (λ m. Ranks c.args.k.now c.args.table.now c.args.v m r c.rank_term.result) l (sym c.in-Term.is ∙ w.left.look) (λ s e. c.rank_term.ensures s r e) c.args.signature before behind w q ∙ sym (rank-law c.args.signature (before ++ behind) l r)

pub returns-in-Run : goal.returns-in-Run
returns-in-Run c = λ before behind l r w q.
    at-run (λ m. Ranks c.args.k.now c.args.table.now c.args.v m r c.rank_run.result) l (sym c.in-Run.is ∙ w.left.look) (λ s e. c.rank_run.ensures s r e) c.args.signature before behind w q ∙ sym (rank-law c.args.signature (before ++ behind) l r)

pub returns-in-Node : goal.returns-in-Node
returns-in-Node c = λ before behind l r w q.
    at-node (λ m. RanksBy c.args.signature c.args.k.now c.args.table.now c.args.v m r c.rank_node.result) l (sym c.in-Node.is ∙ w.left.look) (λ F d s f e b. c.rank_node.ensures F d s r f e b) before behind w q ∙ sym (rank-law c.args.signature (before ++ behind) l r)
