-- `day::table` meets its contract: each return is a law of the table.
use Rattle.day.proofs.Headers.{short-table, other-table, whole-table}
use Rattle.day.proofs.table.Goals as goal

pub returns-then-sheet-start : goal.returns-then-sheet-start
returns-then-sheet-start c = short-table _ _ c.if-sheet-start.true

pub returns-then-offset-start : goal.returns-then-offset-start
returns-then-offset-start c = other-table _ _ c.if-sheet-start.false _ c.offset.ensures.0 c.if-offset-start.true

pub returns : goal.returns
returns c = whole-table _ _ c.if-sheet-start.false _ c.offset.ensures.0 c.if-offset-start.false _ c.rises.ensures
