-- What a writer leaves in a lent slice, and what a part is once its end is brought within the words.
use Rattle.std.specs.Prelude.{ℕ, ◌+◌, ◌≤◌, ◌≡◌, List, length, take}
use Rattle.std.proofs.lemmas.List.Edits.{sets}

-- the words ws stand from `at` up to e, and the rest is as it was
pub record Wrote (old : List ℕ) (at : ℕ) (ws : List ℕ) (new : List ℕ) (e : ℕ) : Type 0 where
  pub end : e ≡ at + length ws
  pub list : new ≡ sets old at ws

-- e is a place within k where a part ends that was to end at `to`
pub record Within (k : List ℕ) (to e : ℕ) : Type 0 where
  pub low : e ≤ length k
  pub same : take e k ≡ take to k
