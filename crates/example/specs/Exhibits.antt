-- What asking for an example leaves: the two slices as solved, and the filling in the room.
use Rattle.std.specs.Prelude.{ℕ, Bool, List, length, Result}
use Rattle.language.specs.declared.Refusal.{Refusal}
use Rattle.language.specs.Limits.{desk}
use Rattle.language.specs.Question.{counts_of}
use Rattle.rules.specs.Answer.{Solving, solving}
use Rattle.rules.specs.Calls.{showing_of, showing}
use Rattle.solver.specs.Leaves.{leaves}
use Rattle.line_example.specs.Shown.{numbers_of, result_of, room_of}

-- for the line of that number, for old training sheets or not: the numbers that come back, and the work slice, the answer slice and the room,
-- which held these words
unfoldable pub told_exhibits : ℕ → Bool → List ℕ → List ℕ → List ℕ → List ℕ → (ℕ × ℕ × ℕ) × List ℕ × List ℕ × List ℕ
told_exhibits line old_sheets question work answer room =
    let s = showing desk old_sheets (length work) (length answer) (length room) line question in
    let l = leaves (solving desk (length work) (length answer) question) work answer in
    (numbers_of s, l.1, l.2, room_of s room)

-- the same with the answer that has these numbers
unfoldable pub exhibits : ℕ → Bool → List ℕ → List ℕ → List ℕ → List ℕ → Result ℕ Refusal × List ℕ × List ℕ × List ℕ
exhibits line old_sheets question work answer room =
    let s = showing desk old_sheets (length work) (length answer) (length room) line question in
    let l = leaves (solving desk (length work) (length answer) question) work answer in
    (result_of s, l.1, l.2, room_of s room)

-- ---- by what a run came to, whether it solved or replayed

abbrev pub told_exhibited : Solving → ℕ → Bool → List ℕ → List ℕ → List ℕ → List ℕ → (ℕ × ℕ × ℕ) × List ℕ × List ℕ × List ℕ
told_exhibited v line old_sheets question work answer room =
    let s = showing_of desk old_sheets (counts_of question) (length room) line v in
    let l = leaves v work answer in
    (numbers_of s, l.1, l.2, room_of s room)

abbrev pub exhibited : Solving → ℕ → Bool → List ℕ → List ℕ → List ℕ → List ℕ → Result ℕ Refusal × List ℕ × List ℕ × List ℕ
exhibited v line old_sheets question work answer room =
    let s = showing_of desk old_sheets (counts_of question) (length room) line v in
    let l = leaves v work answer in
    (result_of s, l.1, l.2, room_of s room)
