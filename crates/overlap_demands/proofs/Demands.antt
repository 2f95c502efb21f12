-- What the overlap desk comes to for a caller: theorems of any outcome that the contracts of its calls allow. Nothing is known of a call but its
-- contract (`pair-allowed`, `sheet-allowed`). The proofs are cited.
use Prim.Native.Nat.{ℕ, ◌+◌, ◌<◌, ◌≤◌}
use mathlib.Core.Path.{◌≡◌}
use mathlib.Core.List.{List}
use lib.ListN.{length}
use Rattle.meaning.specs.Complete.{Complete}
use Rattle.live_rules.specs.Layout.{Rule, most_rules, sheet_words, rules_in, sheet_number}
use Rattle.live_rules.proofs.Back.{Acting}
use Rattle.live_rules.proofs.Back as back
use Rattle.overlap_demands.specs.Calls.{OverlapPair, OverlapSheet}
use Rattle.overlap_demands.specs.Promises.{BothMatch, ReportIn, RowsIn}
use Rattle.overlap_demands.proofs.Pairs as pairs
use Rattle.overlap_demands.proofs.Rows as rows

-- ---- two rules

-- "Cannot meet" may be given only if no complete report matches both: of any symbols, declared or not.
pub pair-cannot : (c : OverlapPair) → c.number ≡ 100 → (report : Complete) → BothMatch c report → ⊥
pair-cannot = pairs.none-matches

-- "Can meet" with a report that both match: it stands in the room.
pub pair-can : (c : OverlapPair) (n : ℕ) → c.number ≡ 200 + n → ReportIn c n
pair-can = pairs.report-in

-- With every other number the room is as it was.
pub pair-stays : (c : OverlapPair) → c.number < 200 → c.room_left ≡ c.room
pair-stays = pairs.room-stays

-- ---- a whole sheet

-- The table of all pairs, first rule before second, equal to asking pair by pair.
pub sheet-rows : (c : OverlapSheet) → c.number ≡ 0 → RowsIn c
sheet-rows = rows.rows_in

-- With every other number the room is as it was.
pub sheet-stays : (c : OverlapSheet) → (c.number ≡ 0 → ⊥) → c.room_left ≡ c.room
sheet-stays = rows.room-untouched

-- A sheet of at most 32 rules that is written as include/overlap.h says is one, and its rules are those that were written.
pub sheet-back : (word : ℕ) (rs : List Rule) → Acting rs → length rs ≤ most_rules → (sheet_number (sheet_words word rs) ≡ 0) × (rules_in (sheet_words word rs) ≡ rs)
sheet-back = back.sheet-back
