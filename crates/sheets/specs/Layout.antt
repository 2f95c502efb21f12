-- The layout of a day's sheet and of its answers: how many parts, "one offset more than that, each of two words with the low one first", the parts.
use Rattle.std.specs.Prelude.{ℕ, zero, suc, ◌+◌, ◌*◌, ◌/◌, ◌%◌, Bool, ◌&&◌, List, [], ◌∷◌, ◌++◌, leb, length, drop, get_or}
use Rattle.language.specs.Limits.{Limits}
use Rattle.language.specs.Question.{rises, parts_from}
use Rattle.meaning.specs.Values.{offsets_of, joined}

-- ---- numbers of two words each

unfoldable pub doubled : List ℕ → List ℕ
doubled [] = []
doubled (o ∷ os) = (o % 65536) ∷ (o / 65536) ∷ doubled os

-- so many of them, read at the front of the words
unfoldable pub undoubled : ℕ → List ℕ → List ℕ
undoubled zero ws = []
undoubled (suc n) ws = (get_or ws 0 0 + 65536 * get_or ws 1 0) ∷ undoubled n (drop 2 ws)

-- ---- the layout

-- where the parts begin: behind their number and n + 1 offsets
abbrev pub parts_at : ℕ → ℕ
parts_at n = 2 * n + 3

-- parts laid out
unfoldable pub sheet_words : List (List ℕ) → List ℕ
sheet_words ps = length ps ∷ (doubled (offsets_of (parts_at (length ps)) ps) ++ joined ps)

abbrev pub count_of : List ℕ → ℕ
count_of ws = get_or ws 0 0

-- the offsets of n parts and the end of the last
unfoldable pub sheet_offsets : ℕ → List ℕ → List ℕ
sheet_offsets n ws = undoubled (suc n) (drop 1 ws)

-- no offset is missing, the first points behind the table, they never fall, the last is the length
unfoldable pub table_laid : ℕ → List ℕ → Bool
table_laid n ws = leb (parts_at n) (length ws) && rises (parts_at n) (sheet_offsets n ws) (length ws)

-- "up to 64 questions"
unfoldable pub sheet_laid : Limits → List ℕ → Bool
sheet_laid L ws = leb (count_of ws) L.sheets && table_laid (count_of ws) ws

-- the words from each offset to the next
unfoldable pub sheet_parts : List ℕ → List (List ℕ)
sheet_parts ws = parts_from (parts_at (count_of ws)) (drop 1 (sheet_offsets (count_of ws) ws)) (drop (parts_at (count_of ws)) ws)
