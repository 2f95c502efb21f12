-- The table of a sheet of live rules: a row for each pair, "first rule before second".
use Rattle.std.specs.Prelude.{ℕ, ◌+◌, ◌*◌, ◌/◌, ◌%◌, List, [], ◌∷◌, ◌++◌, map, eqb, ltb, length}
use Rattle.std.proofs.lemmas.List.Edits.{sets}
use Rattle.language.specs.Kinds.{pick}
use Rattle.word_bytes.specs.Bytes.{bytes_of}
use Rattle.live_rules.specs.Layout.{Rule, word_of, rules_in, sheet_number}
use Rattle.pairing.specs.Meeting.{Meeting, meeting}
use Rattle.pairing.specs.Lent.{meeting_number, report_of}

-- a word 0 that is no word declares more symbols than there are
abbrev pub word_from : ℕ → ℕ
word_from n = pick (ltb n 65536) n 65535

abbrev pub pairs_of : List Rule → List (Rule × Rule)
pairs_of [] = []
pairs_of (r ∷ rs) = map (λ (s : Rule). (r, s)) rs ++ pairs_of rs

-- a row: the two actions, the number of what the pair comes to, of two words with the low one first, and the report
abbrev pub row_of : Rule × Rule → Meeting → List ℕ
row_of (a, b) m = a.action ∷ (b.action ∷ ((meeting_number m % 65536) ∷ ((meeting_number m / 65536) ∷ report_of m)))

module _ (size word : ℕ) where
  -- what stands in a row is what asking for its pair comes to
  abbrev pub row_words : Rule × Rule → List ℕ
  row_words (a, b) = row_of (a, b) (meeting size word a.pattern b.pattern)

  -- every row has room for a report of `size` words
  abbrev pub row_length : ℕ
  row_length = size + 4

  -- the rows in the room's bytes, from the word `at` on; what a row does not use stays as it was
  unfoldable pub table : List (Rule × Rule) → ℕ → List ℕ → List ℕ
  table [] at room = room
  table (p ∷ ps) at room = table ps (at + row_length) (sets room (2 * at) (bytes_of (row_words p)))

module _ (size : ℕ) (ws : List ℕ) where
  abbrev pub needed : ℕ
  needed = length (pairs_of (rules_in ws)) * row_length size 0

  -- 24 and 4 of the sheet; 1 where a room of so many words has not all rows; and else 0
  unfoldable pub table_number : ℕ → ℕ
  table_number room = pick (eqb (sheet_number ws) 0) (pick (ltb room needed) 1 0) (sheet_number ws)

  -- the table, or the room as it was
  unfoldable pub table_leaves : List ℕ → List ℕ
  table_leaves room = pick (eqb (table_number (length room / 2)) 0) (table size (word_of ws) (pairs_of (rules_in ws)) 0 room) room
