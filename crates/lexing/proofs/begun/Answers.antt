-- `lexing::begun` meets its contract: no token, a name, a mark before a name, a token by itself.
use Rattle.lexing.proofs.Pieces.{no-token, a-name, a-mark, by_itself}
use Rattle.lexing.proofs.begun.Goals as goal

pub returns-then-s-eq0 : goal.returns-then-s-eq0
returns-then-s-eq0 c = no-token _ _ _ c.sort-s.ensures c.if-s-eq0.true

pub returns-then-s-eq1 : goal.returns-then-s-eq1
returns-then-s-eq1 c = a-name _ _ _ c.sort-s.ensures c.if-s-eq0.false c.if-s-eq1.true c.name_end.ensures

pub returns-then-s-eq2 : goal.returns-then-s-eq2
returns-then-s-eq2 c = a-mark _ _ _ c.sort-s.ensures c.if-s-eq0.false c.if-s-eq1.false c.if-s-eq2.true c.marked.ensures

pub returns : goal.returns
returns c = by_itself _ _ _ c.sort-s.ensures c.if-s-eq0.false c.if-s-eq1.false c.if-s-eq2.false
