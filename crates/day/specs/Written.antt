-- A room's bytes while the answers are written: their number, the offsets known so far, and the parts so far.
use Rattle.std.specs.Prelude.{ℕ, ◌+◌, ◌*◌, ◌/◌, ◌≤◌, ◌≡◌, Bool, true, List, ◌∷◌, ◌++◌, leb, length, take, drop}
use Rattle.std.proofs.lemmas.List.Edits.{sets}
use Rattle.language.specs.Limits.{desk}
use Rattle.meaning.specs.Values.{offsets_of, joined}
use Rattle.word_bytes.specs.Bytes.{bytes_of}
use Rattle.sheets.specs.Layout.{doubled, parts_at, sheet_words}
use Rattle.handing.specs.Handed.{word_bytes}

-- n, the offset of each part and the end of the last, and the parts, in a room that held `old`
unfoldable pub written : ℕ → List ℕ → List (List ℕ) → List ℕ
written n old ps = sets (sets old 0 (bytes_of (n ∷ doubled (offsets_of (parts_at n) ps)))) (2 * parts_at n) (bytes_of (joined ps))

-- the most words that a part has: a number and an answer
abbrev pub most : ℕ
most = 1 + desk.room

-- of the parts ps, n in all, the first i stand in the room, up to the word `at`
pub record Placed (n : ℕ) (ps : List (List ℕ)) (old : List ℕ) (i at : ℕ) (new : List ℕ) : Type 0 where
  pub end : at ≡ parts_at n + length (joined (take i ps))
  pub low : at ≤ parts_at n + i * most
  pub fits : 2 * at ≤ length old
  pub list : new ≡ written n old (take i ps)

-- all parts are written, or they do not fit the room, whose last byte alone is then known
pub record Ended (ps : List (List ℕ)) (old : List ℕ) (r : Bool) (new : List ℕ) : Type 0 where
  pub fits : r ≡ leb (length (sheet_words ps)) (length old / 2)
  pub long : length new ≡ length old
  pub whole : r ≡ true → new ≡ bytes_of (sheet_words ps) ++ drop (2 * length (sheet_words ps)) old
  pub last : drop (word_bytes old) new ≡ drop (word_bytes old) old

-- a slice that held `old` is as long as it was, and so are the words past the room
pub record Kept (old new : List ℕ) : Type 0 where
  pub long : length new ≡ length old
  pub past : drop desk.room new ≡ drop desk.room old
