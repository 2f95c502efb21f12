-- `text_words::literal::right_side` meets its contract: no side, and one with what stands behind it.
use Rattle.language.specs.Limits.{desk}
use Rattle.text_words.proofs.Sides.{no-right-side, right_side}
use Rattle.text_words.proofs.literal.right_side.Goals as goal

pub returns-then-not-r : goal.returns-then-not-r
returns-then-not-r c = no-right-side desk _ _ c.requires c.side-r.ensures c.if-not-r.true

pub returns : goal.returns
returns c = right_side desk _ _ c.requires c.side-r.ensures c.if-not-r.false c.next-p.ensures c.is_over.ensures
