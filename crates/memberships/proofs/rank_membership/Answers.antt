-- By the look of the hedge.
use Rattle.memberships.proofs.Worded.{rank-at-empty, rank-at-term, rank-at-run, rank-at-node}
use Rattle.memberships.proofs.rank_membership.Goals as goal

pub returns-in-Empty : goal.returns-in-Empty
returns-in-Empty c = λ before h R behind v. rank-at-empty c.args.signature v c.in-Empty.is c.rank_empty.ensures

pub returns-in-Term : goal.returns-in-Term
returns-in-Term c = λ before h R behind v. rank-at-term c.args.signature v c.in-Term.is c.rank_term.ensures

pub returns-in-Run : goal.returns-in-Run
returns-in-Run c = λ before h R behind v. rank-at-run c.args.signature v c.in-Run.is c.rank_run.ensures

pub returns-in-Node : goal.returns-in-Node
returns-in-Node c = λ before h R behind v. rank-at-node c.args.signature v c.in-Node.is c.rank_term-in-Node.ensures
