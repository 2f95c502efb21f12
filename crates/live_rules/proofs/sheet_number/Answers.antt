-- `live_rules::sheet_number` meets its contract.
use mathlib.Core.Path.{sym, ◌∙◌}
use mathlib.Core.Bool.{true, false}
use Rattle.live_rules.proofs.Reading.{sheet-odd, sheet-short, sheet-many, sheet-laid}
use native.Mathlib.Omega.{arith}
use Rattle.live_rules.proofs.sheet_number.Goals as goal

pub returns-then-sheet-ne0 : goal.returns-then-sheet-ne0
returns-then-sheet-ne0 c = sheet-odd c.args.sheet.now c.if-sheet-ne0.true

pub returns-then-sheet-lt4 : goal.returns-then-sheet-lt4
returns-then-sheet-lt4 c = sheet-short c.args.sheet.now (omega arith) (omega arith)

pub returns-then-n-gt-RULES : goal.returns-then-n-gt-RULES
returns-then-n-gt-RULES c = sheet-many c.args.sheet.now (omega arith) (omega arith) _ (c.wide-n.ensures ∙ c.word_at.ensures) (omega arith)

pub returns-then-laid : goal.returns-then-laid
returns-then-laid c = sheet-laid c.args.sheet.now (omega arith) (omega arith) _ (c.wide-n.ensures ∙ c.word_at.ensures) (omega arith) true (sym c.if-laid.true ∙ c.laid.ensures)

pub returns : goal.returns
returns c = sheet-laid c.args.sheet.now (omega arith) (omega arith) _ (c.wide-n.ensures ∙ c.word_at.ensures) (omega arith) false (sym c.if-laid.false ∙ c.laid.ensures)
