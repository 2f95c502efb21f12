-- What each call of the host that has a trail returns, and what it leaves in the bytes lent to it, for every input.
use Rattle.std.specs.Prelude.{ℕ, ◌+◌, ◌*◌, ◌/◌, List, ◌++◌, length, drop, replicate}
use Rattle.language.specs.Limits.{Limits}
use Rattle.language.specs.Numbers.{number_of}
use Rattle.rules.specs.Answer.{Solving, answered, unread, given-up}
use Rattle.rules.specs.Calls.{Showing}
use Rattle.word_bytes.specs.Bytes.{words_in, words_of, half_word, bytes_of}
use Rattle.handing.specs.Handed.{word_bytes}
use Rattle.host.specs.Numbers.{asks_old}
use Rattle.replay.specs.Calls.{solving_trail, replaying, showing_trail}

-- ---- desk_solve_trail

-- the words of the longest trail: three for each step
abbrev pub longest_trail : Limits → ℕ
longest_trail L = 3 * L.steps

-- An answer slice of so many bytes, a room for the trail of so many, and a question's bytes. The work slice is the desk's own.
unfoldable pub trailing_bytes : Limits → ℕ → ℕ → List ℕ → Solving
trailing_bytes L answer room q = solving_trail L L.room (answer / 2) (room / 2) (words_in q)

-- 100 and the steps made, and below stand the refusals
unfoldable pub trail_number : Solving → ℕ
trail_number (answered ls n) = 100 + n
trail_number (unread r) = number_of r
trail_number (given-up r) = number_of r

-- The bytes of the trail's room at exit: the trail, and behind it unchanged; unchanged after 1 to 6; "after 29, 7 to 10 and 21 the slices and that room
-- are zeros". An odd last byte is no part of a word.
unfoldable pub trail_bytes : Solving → List ℕ → List ℕ → List ℕ
trail_bytes (answered ls n) t bytes = bytes_of t ++ drop (2 * length t) bytes
trail_bytes (unread r) t bytes = bytes
trail_bytes (given-up r) t bytes = replicate (word_bytes bytes) 0 ++ drop (word_bytes bytes) bytes

-- ---- desk_replay

-- An answer slice of so many bytes, a trail's bytes, of which an odd last one is half a word, and a question's bytes. The work slice is the desk's own.
unfoldable pub replaying_bytes : Limits → ℕ → List ℕ → List ℕ → Solving
replaying_bytes L answer trail q = replaying L L.room (answer / 2) (half_word trail) (words_of trail) (words_in q)

-- ---- desk_example_trail

-- A room of so many bytes, a line's number, the flag for old training sheets, a trail's bytes and a question's. The work and the answer slice are the
-- desk's own.
unfoldable pub showing_trail_bytes : Limits → ℕ → ℕ → ℕ → List ℕ → List ℕ → Showing
showing_trail_bytes L room line old trail q = showing_trail L (asks_old old) L.room L.room (room / 2) line (half_word trail) (words_of trail) (words_in q)
