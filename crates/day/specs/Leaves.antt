-- What answering a day's sheet gives back, and what it leaves in the room's bytes and in the two lent slices.
use Rattle.std.specs.Prelude.{ℕ, ◌*◌, List, ◌++◌, length, drop, replicate}
use Rattle.language.specs.Limits.{desk}
use Rattle.language.specs.Numbers.{number_of}
use Rattle.rules.specs.Answer.{zeros, overwritten}
use Rattle.word_bytes.specs.Bytes.{bytes_of}
use Rattle.handing.specs.Handed.{word_bytes}
use Rattle.sheets.specs.Day.{Day, answers, unread, given-up}

-- the number that comes back
abbrev pub day_number : Day → ℕ
day_number (answers ws) = 0
day_number (unread r) = number_of r
day_number (given-up r) = number_of r

-- and its place, which is 0
abbrev pub day_numbers : Day → ℕ × ℕ
day_numbers d = (day_number d, 0)

-- "The rest of the room is unchanged"; "with nothing changed"; "the room is then all zeros"
abbrev pub room_leaves : Day → List ℕ → List ℕ
room_leaves (answers ws) bytes = bytes_of ws ++ drop (2 * length ws) bytes
room_leaves (unread r) bytes = bytes
room_leaves (given-up r) bytes = replicate (word_bytes bytes) 0 ++ drop (word_bytes bytes) bytes

-- "work and answer slices end as zeros"
abbrev pub slice_leaves : Day → List ℕ → List ℕ
slice_leaves (answers ws) old = overwritten desk (zeros desk) old
slice_leaves (unread r) old = old
slice_leaves (given-up r) old = overwritten desk (zeros desk) old
