-- What asking for an example with a trail leaves: the two slices as replayed, and the filling in the room.
use Rattle.std.specs.Prelude.{ℕ, Bool, List, length}
use Rattle.language.specs.Limits.{desk}
use Rattle.running.specs.Leaves.{leaves}
use Rattle.line_example.specs.Shown.{numbers_of, room_of}
use Rattle.word_bytes.specs.Bytes.{words_of, half_word}
use Rattle.replay.specs.Calls.{replaying, showing_trail}

-- for the line of that number, for old training sheets or not, with these bytes of a trail: the numbers that come back, and the work slice, the answer
-- slice and the room, which held these words
unfoldable pub told_trail_exhibits : ℕ → Bool → List ℕ → List ℕ → List ℕ → List ℕ → List ℕ → (ℕ × ℕ × ℕ) × List ℕ × List ℕ × List ℕ
told_trail_exhibits line old_sheets trail question work answer room =
    let s = showing_trail desk old_sheets (length work) (length answer) (length room) line (half_word trail) (words_of trail) question in
    let l = leaves (replaying desk (length work) (length answer) (half_word trail) (words_of trail) question) work answer in
    (numbers_of s, l.1, l.2, room_of s room)
