-- `overlap::overlap_sheet` meets its contract.
use mathlib.Core.Path.{sym, ap, ◌∙◌}
use Rattle.word_bytes.specs.Bytes.{words_of}
use Rattle.live_rules.specs.Layout.{rules_laid}
use Rattle.live_rules.proofs.Reading.{is-sheet}
use Rattle.overlap.proofs.Sheets.{sheet-refused, sheet-no-room, sheet-done}
use native.Mathlib.Omega.{arith}
use Rattle.overlap.proofs.overlap_sheet.Goals as goal

pub returns-then-k-ne0 : goal.returns-then-k-ne0
returns-then-k-ne0 c = let z = sheet-refused c.args.report c.args.sheet.now c.args.room.now _ c.sheet_number-k.ensures c.if-k-ne0.true in record { value = z.0; room_after = z.1 }

pub word_at-requires : goal.word_at-requires
word_at-requires c = let l = (is-sheet c.args.sheet.now (sym c.sheet_number-k.ensures ∙ c.if-k-ne0.false)).long in omega arith

pub table_length-requires : goal.table_length-requires
table_length-requires c = let f = (is-sheet c.args.sheet.now (sym c.sheet_number-k.ensures ∙ c.if-k-ne0.false)).few in let e = c.wide-n.ensures ∙ c.word_at.ensures in (omega arith, omega arith)

pub returns-then-room-table_length : goal.returns-then-room-table_length
returns-then-room-table_length c = let z = sheet-no-room c.args.report c.args.sheet.now c.args.room.now (is-sheet c.args.sheet.now (sym c.sheet_number-k.ensures ∙ c.if-k-ne0.false)) (sym c.sheet_number-k.ensures ∙ c.if-k-ne0.false) _ (c.wide-n.ensures ∙ c.word_at.ensures) (let t = c.table_length.ensures in omega arith) in record { value = z.0; room_after = z.1 }

pub word_at-requires-2 : goal.word_at-requires-2
word_at-requires-2 c = let l = (is-sheet c.args.sheet.now (sym c.sheet_number-k.ensures ∙ c.if-k-ne0.false)).long in omega arith

pub all_rows-requires : goal.all_rows-requires
all_rows-requires c = let x = is-sheet c.args.sheet.now (sym c.sheet_number-k.ensures ∙ c.if-k-ne0.false) in let t = c.table_length.ensures in (ap (λ m. rules_laid m 2 (words_of c.args.sheet.now)) (c.wide-n.ensures ∙ c.word_at.ensures) ∙ x.laid, omega arith)

pub returns : goal.returns
returns c = let z = sheet-done c.args.report c.args.sheet.now c.args.room.now (is-sheet c.args.sheet.now (sym c.sheet_number-k.ensures ∙ c.if-k-ne0.false)) (sym c.sheet_number-k.ensures ∙ c.if-k-ne0.false) _ (c.wide-n.ensures ∙ c.word_at.ensures) (let t = c.table_length.ensures in omega arith) _ c.word_at-2.ensures _ c.all_rows.ensures in record { value = z.0; room_after = z.1 }
