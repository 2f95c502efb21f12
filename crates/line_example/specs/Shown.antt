-- What asking for an example returns, and what it leaves in the room that is lent.
use Rattle.std.specs.Prelude.{ℕ, List, ◌++◌, length, drop, Result, Ok, Err}
use Rattle.language.specs.declared.Refusal.{Refusal}
use Rattle.language.specs.Numbers.{number_of, place_of}
use Rattle.rules.specs.Calls.{Showing, shows, denied}

-- the number of the table, 0 for a filling, the place of the mistake, and the filling's length
abbrev pub numbers_of : Showing → ℕ × ℕ × ℕ
numbers_of (shows ws) = (0, 0, length ws)
numbers_of (denied r) = (number_of r, place_of r, 0)

-- the answer that has these numbers: the filling's length, or the refusal
abbrev pub result_of : Showing → Result ℕ Refusal
result_of (shows ws) = Ok (length ws)
result_of (denied r) = Err r

-- the filling at the front and the rest unchanged, or all unchanged
abbrev pub room_of : Showing → List ℕ → List ℕ
room_of (shows ws) old = ws ++ drop (length ws) old
room_of (denied r) old = old
