-- By the mark.
use Rattle.clash.proofs.Collecting.{one-yes, one-no}
use Rattle.clash.proofs.symbols.collect_one.Goals as goal

pub returns-then-mark : goal.returns-then-mark
returns-then-mark c = one-yes c.args.mark c.args.list.now c.args.n c.args.i _ c.if-mark.true c.narrow.ensures

pub returns : goal.returns
returns c = one-no c.args.mark c.args.list.now c.args.n c.args.i c.if-mark.false
