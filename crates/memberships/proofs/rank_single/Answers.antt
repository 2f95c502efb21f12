-- By the look.
use Rattle.memberships.specs.Rank.{child_terms}
use Rattle.memberships.proofs.Worded.{single-at, single-node}
use Rattle.memberships.proofs.rank_single.Goals as goal

pub returns-in-Empty : goal.returns-in-Empty
returns-in-Empty c = λ h beyond s l. single-at c.args.signature c.args.g (child_terms h) c.in-Empty.is

pub returns-in-Term : goal.returns-in-Term
returns-in-Term c = λ h beyond s l. single-at c.args.signature c.args.g (child_terms h) c.in-Term.is

pub returns-in-Run : goal.returns-in-Run
returns-in-Run c = λ h beyond s l. single-at c.args.signature c.args.g (child_terms h) c.in-Run.is

pub returns-in-Node : goal.returns-in-Node
returns-in-Node c = λ h beyond s l. single-node c.args.signature c.args.g s l c.in-Node.is c.rank_over.ensures
