-- `lexing::marked` meets its contract: with a name, and without one.
use Rattle.lexing.proofs.Pieces.{without, with-name}
use Rattle.lexing.proofs.marked.Goals as goal

pub returns-then-to-at : goal.returns-then-to-at
returns-then-to-at c = without _ _ _ c.name_end-to.ensures c.if-to-at.true c.without_name.ensures

pub returns : goal.returns
returns c = with-name _ _ _ c.name_end-to.ensures c.if-to-at.false
