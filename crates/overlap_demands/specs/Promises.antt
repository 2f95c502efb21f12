-- What is promised of a pair and of a table, as a caller sees them: over the numbers and the words alone.
use Rattle.std.specs.Prelude.{ℕ, ◌+◌, ◌-◌, ◌*◌, ◌/◌, ◌%◌, ◌<◌, ◌≤◌, ◌≡◌, List, [], ◌∷◌, ◌++◌, length, take, drop, get_or}
use Rattle.language.specs.declared.Signature.{Signature}
use Rattle.word_bytes.specs.Bytes.{words_of, words_in}
use Rattle.meaning.specs.Complete.{Complete, complete_words}
use Rattle.patterns.specs.Terms.{Matches}
use Rattle.live_rules.specs.Layout.{Rule, word_of, rules_in}
use Rattle.overlap.specs.Table.{word_from, pairs_of}
use Rattle.overlap_demands.specs.Calls.{OverlapPair, OverlapSheet}

-- the symbols that word 0 declares, and how many of these, the last, are unordered
abbrev pub declared_by : ℕ → Signature
declared_by word = record { symbols = word % 256; unordered = word / 256 }

-- both patterns of a call match a complete report
pub record BothMatch (c : OverlapPair) (report : Complete) : Type 0 where
  pub first : Matches (declared_by (word_from c.word₀)) (words_in c.first) report
  pub second : Matches (declared_by (word_from c.word₀)) (words_in c.second) report

-- the first n words of the room are, with an end mark, a report that both patterns match, and the rest of the room is as it was
pub record ReportIn (c : OverlapPair) (n : ℕ) : Type 0 where
  pub fit : 2 * n ≤ length c.room
  pub report : Complete
  pub words : take n (words_of c.room_left) ++ (0 ∷ []) ≡ complete_words report
  pub matched : BothMatch c report
  pub rest : drop (2 * n) c.room_left ≡ drop (2 * n) c.room

-- ---- the table of a sheet

abbrev no_rule : Rule
no_rule = record { action = 0; pattern = [] }

abbrev pub pair_at : OverlapSheet → ℕ → Rule × Rule
pair_at c i = get_or (pairs_of (rules_in (words_in c.sheet))) i (no_rule, no_rule)

-- a call for the i-th pair by itself, in a room for as long a report
pub record ByItself (c : OverlapSheet) (i : ℕ) (d : OverlapPair) : Type 0 where
  pub word : word_from d.word₀ ≡ word_of (words_in c.sheet)
  pub first : words_in d.first ≡ (pair_at c i).0.pattern
  pub second : words_in d.second ≡ (pair_at c i).1.pattern
  pub size : length d.room / 2 ≡ c.report

-- what a row then holds: the actions, the number, and the report, if there is one; a number below 200 has none
abbrev pub row_by : Rule × Rule → OverlapPair → List ℕ
row_by (a, b) d = a.action ∷ (b.action ∷ ((d.number % 65536) ∷ ((d.number / 65536) ∷ take (d.number - 200) (words_of d.room_left))))

-- "equal to asking pair by pair": the i-th row is what any call of overlap_pair gives for the i-th pair
pub record RowsIn (c : OverlapSheet) : Type 0 where
  pub fit : 2 * (length (pairs_of (rules_in (words_in c.sheet))) * (c.report + 4)) ≤ length c.room
  pub each : (i : ℕ) → i < length (pairs_of (rules_in (words_in c.sheet))) → (d : OverlapPair) → ByItself c i d
      → take (4 + (d.number - 200)) (drop (i * (c.report + 4)) (words_of c.room_left)) ≡ row_by (pair_at c i) d
