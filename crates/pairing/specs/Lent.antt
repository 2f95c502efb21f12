-- The number that a pair of rules gets, and what is left in the bytes that are lent for the report.
use Rattle.std.specs.Prelude.{ℕ, zero, suc, ◌+◌, ◌*◌, ◌≡◌, List, [], eqb, length, get_or}
use Rattle.std.proofs.lemmas.List.Edits.{sets}
use Rattle.language.specs.Kinds.{pick}
use Rattle.word_bytes.specs.Bytes.{bytes_of}
use Rattle.pairing.specs.Meeting.{Meeting, cannot, can, unsettled, refused}

-- 100 cannot meet, 101 not settled, 200 and the report's words; below stand the refusals
abbrev pub meeting_number : Meeting → ℕ
meeting_number cannot = 100
meeting_number unsettled = 101
meeting_number (can ws) = 200 + length ws
meeting_number (refused n) = n

abbrev pub report_of : Meeting → List ℕ
report_of cannot = []
report_of unsettled = []
report_of (can ws) = ws
report_of (refused n) = []

-- the report's bytes from the word `at` on, and all else as it was
abbrev pub Told : Meeting → ℕ → List ℕ → ℕ → List ℕ → Type 0
Told m at old r new = (r ≡ meeting_number m) × (new ≡ sets old (2 * at) (bytes_of (report_of m)))

-- the first of n lines from line i on that is marked settled in an answer's words; the place after them where none is
unfoldable pub marked_from : List ℕ → ℕ → ℕ → ℕ
marked_from ws i zero = i
marked_from ws i (suc n) = pick (eqb (get_or ws (get_or ws (i + 2) 0) 0) 1) i (marked_from ws (suc i) n)
