-- `one_in`: by whether the word has a place in the table.
use Rattle.counts.proofs.Added.{past-in, within_in}
use Rattle.counts.proofs.one_in.Goals as goal

pub returns-then-x-ge-TABLE : goal.returns-then-x-ge-TABLE
returns-then-x-ge-TABLE c = past-in _ _ c.if-x-ge-TABLE.true

pub returns : goal.returns
returns c = within_in c.args.x c.args.t.now c.if-x-ge-TABLE.false
