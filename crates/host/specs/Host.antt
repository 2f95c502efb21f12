-- What each call of the host that solves returns, and what it leaves in the bytes lent to it, for every input.
use Rattle.std.specs.Prelude.{ℕ, ◌+◌, ◌*◌, ◌/◌, List, ◌++◌, length, drop}
use Rattle.language.specs.Limits.{Limits}
use Rattle.language.specs.Numbers.{number_of}
use Rattle.rules.specs.Answer.{Solving, answered, unread, given-up, solving, answer_words, zeros}
use Rattle.rules.specs.Calls.{Showing, shows, denied, showing}
use Rattle.word_bytes.specs.Bytes.{words_in, bytes_of}
use Rattle.sheets.specs.Day.{Day, day}
use Rattle.host.specs.Numbers.{asks_old}

-- ---- desk_solve

-- An answer slice of so many bytes, and a question's bytes. The work slice is the desk's own.
unfoldable pub solving_bytes : Limits → ℕ → List ℕ → Solving
solving_bytes L answer q = solving L L.room (answer / 2) (words_in q)

-- "It gets back the refusal number, or 0."
unfoldable pub solve_number : Solving → ℕ
solve_number (answered ls n) = 0
solve_number (unread r) = number_of r
solve_number (given-up r) = number_of r

-- The answer's bytes at exit: unchanged, or zeros, or the answer; later bytes stay.
unfoldable pub solve_leaves : Limits → Solving → List ℕ → List ℕ
solve_leaves L (answered ls n) bytes = bytes_of (answer_words L ls) ++ drop (2 * L.room) bytes
solve_leaves L (unread r) bytes = bytes
solve_leaves L (given-up r) bytes = bytes_of (zeros L) ++ drop (2 * L.room) bytes

-- ---- desk_example

-- A room of so many bytes, a line's number, the flag for old training sheets, and a question's bytes. The work and the answer slice are the desk's
-- own.
unfoldable pub showing_bytes : Limits → ℕ → ℕ → ℕ → List ℕ → Showing
showing_bytes L room line old q = showing L (asks_old old) L.room L.room (room / 2) line (words_in q)

-- 100 and the filling's length in words, and below stand the refusals
unfoldable pub show_number : Showing → ℕ
show_number (shows ws) = 100 + length ws
show_number (denied r) = number_of r

-- "a refusal leaves its room untouched"; else "the room holds the filling, the rest of it unchanged"
unfoldable pub show_leaves : Showing → List ℕ → List ℕ
show_leaves (shows ws) bytes = bytes_of ws ++ drop (2 * length ws) bytes
show_leaves (denied r) bytes = bytes

-- ---- desk_day

-- A room of so many bytes, and a sheet's bytes. The work and the answer slice are the desk's own; what is told and left is said where a day is
-- answered (`day_number`, `room_leaves` in `day`).
unfoldable pub day_bytes : Limits → ℕ → List ℕ → Day
day_bytes L room sheet = day L L.room L.room (room / 2) (words_in sheet)
