-- A trail with one step more.
use Rattle.std.specs.Prelude.{ℕ, ◌+◌, ◌*◌, ◌<◌, ◌≤◌, ◌≡◌, Bool, true, false, List, length, set}
use Rattle.language.specs.Kinds.{pick}

-- three words from a place on
abbrev pub three_at : List ℕ → ℕ → ℕ → ℕ → ℕ → List ℕ
three_at ws from a b c = set (set (set ws from a) (from + 1) b) (from + 2) c

-- there is room and the step is there, or there is none and nothing changed
pub data Noted (old : List ℕ) (made rule literal : ℕ) (swap r : Bool) (new : List ℕ) : Type 0 where
  there : r ≡ true → 3 * made + 3 ≤ length old → new ≡ three_at old (3 * made) rule literal (pick swap 1 0) → Noted old made rule literal swap r new
  roomless : r ≡ false → length old < 3 * made + 3 → new ≡ old → Noted old made rule literal swap r new
