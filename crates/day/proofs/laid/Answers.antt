-- `day::laid` meets its contract: each return is a law of the header.
use mathlib.Core.Path.{◌∙◌}
use Rattle.day.proofs.Headers.{odd-sheet, short-sheet, many-sheet, few-sheet}
use Rattle.day.proofs.laid.Goals as goal

pub returns-then-sheet-ne0 : goal.returns-then-sheet-ne0
returns-then-sheet-ne0 c = odd-sheet _ c.if-sheet-ne0.true

pub returns-then-sheet-lt2 : goal.returns-then-sheet-lt2
returns-then-sheet-lt2 c = short-sheet _ c.if-sheet-ne0.false c.if-sheet-lt2.true

pub returns-then-n-gt-SHEETS : goal.returns-then-n-gt-SHEETS
returns-then-n-gt-SHEETS c = many-sheet _ c.if-sheet-ne0.false _ (c.from-n.ensures ∙ c.word_at.ensures) c.if-n-gt-SHEETS.true

pub returns : goal.returns
returns c = few-sheet _ c.if-sheet-ne0.false _ (c.from-n.ensures ∙ c.word_at.ensures) c.if-n-gt-SHEETS.false _ c.table.ensures
