-- `day::answer_all` meets its contract: after i turns the first i answers stand in the room.
use mathlib.Core.Path.{◌≡◌}
use lib.ListN.{length}
use Rattle.language.specs.Limits.{desk}
use Rattle.word_bytes.specs.Bytes.{words_in}
use Rattle.sheets.specs.Layout.{sheet_parts}
use Rattle.sheets.specs.Day.{answers_of}
use Rattle.day.specs.Written.{Placed, Kept}
use Rattle.day.proofs.answer_all.Given as goal

abbrev pub invariant-loop-i : goal.invariant-loop-i
invariant-loop-i l = (l.n ≡ l.count) × Placed l.count (answers_of desk (length l.initial.work) (length l.initial.answer) (sheet_parts (words_in l.sheet))) l.initial.room l.i l.at l.room × Kept l.initial.work l.work × Kept l.initial.answer l.answer
