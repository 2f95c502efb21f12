-- What reading found, as a place of the words that it was read in.
use Rattle.std.specs.Prelude.{ℕ, ◌+◌, Result, Ok, Err}
use Rattle.language.specs.Reading.{Got, got, stop}

-- the place after a tree that was read at `at`, or the place of the word that cannot go on
unfoldable pub placed : {A : Type 0} → ℕ → Got A → Result ℕ ℕ
placed at (got a k) = Ok (at + k)
placed at (stop k) = Err (at + k)
