-- `lexing::next` meets its contract: the end of the text, the end of a line, and a token.
use borrow.Author.Rules.{rules}
use Rattle.lexing.proofs.Pieces.{short, end-of-text, end-of-line, a-token}
use Rattle.lexing.proofs.next.Goals as goal

pub returns-then-i-text : goal.returns-then-i-text
returns-then-i-text c = end-of-text _ _ c.skip-i.ensures c.if-i-text.true

pub bounds-text-i : goal.bounds-text-i
bounds-text-i c = short _ _ c.skip-i.ensures c.if-i-text.false (search rules)

pub returns-then-b-eq10 : goal.returns-then-b-eq10
returns-then-b-eq10 c = end-of-line _ _ c.skip-i.ensures c.if-i-text.false c.if-b-eq10.true

pub begun-requires : goal.begun-requires
begun-requires c = short _ _ c.skip-i.ensures c.if-i-text.false (search rules)

pub returns : goal.returns
returns c = a-token _ _ c.skip-i.ensures c.if-i-text.false c.if-b-eq10.false c.mark_of.ensures c.begun.ensures
