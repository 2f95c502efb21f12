-- `text_words::conjunction::conjunction` meets its contract: a line that asks nothing, and literals.
use Rattle.language.specs.Limits.{desk}
use Rattle.text_words.proofs.Rows.{line-nothing, line-literals}
use Rattle.text_words.proofs.conjunction.conjunction.Goals as goal

pub returns-then-w : goal.returns-then-w
returns-then-w c = (line-nothing desk _ _ c.requires c.nothing-w.ensures c.if-w.true)

pub returns : goal.returns
returns c = (line-literals desk _ _ c.requires c.nothing-w.ensures c.if-w.false c.literals.ensures)
