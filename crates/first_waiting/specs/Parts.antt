-- Words that are the same in two lists, counted from the beginnings and from the ends.
use Rattle.std.specs.Prelude.{ℕ, ◌+◌, ◌-◌, ◌<◌, ◌≡◌, List, get_or}

-- the first n words of k stand in w from a place on
pub record Alike (k w : List ℕ) (from n : ℕ) : Type 0 where
  pub each : (j : ℕ) → j < n → get_or k j 0 ≡ get_or w (from + j) 0

-- the last n words of k before `end` are those of w before `to`
pub record AlikeBack (k : List ℕ) (end : ℕ) (w : List ℕ) (to n : ℕ) : Type 0 where
  pub each : (j : ℕ) → j < n → get_or k (end - 1 - j) 0 ≡ get_or w (to - 1 - j) 0
