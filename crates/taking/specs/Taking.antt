-- What taking a step leaves, its results being the words ws and getting this number: 7, where one is too long, 8, where they have no room before
-- those that wait, or the results written right before `next`.
use Rattle.std.specs.Prelude.{ℕ, ◌+◌, ◌<◌, ◌≡◌, List, ltb, Option, Some, None, Result, Ok, Err}
use Rattle.std.proofs.lemmas.List.Edits.{sets}
use Rattle.language.specs.declared.Refusal.{Refusal}
use Rattle.language.specs.declared.Refusal.TheVariants.{LongResult, LongWaiting}
use Rattle.language.specs.Kinds.{pick}
use Rattle.language.specs.Numbers.{number_of}
use Rattle.frames.specs.Frames.{in_frames}
use Rattle.plans.specs.Sizes.{sized, size_number}

-- the number of the table for each case, 0 for a step that is made, and the value: the place where its results begin
abbrev pub stepped_number : Result ℕ Refusal → ℕ
stepped_number (Err x) = number_of x
stepped_number (Ok at) = 0

abbrev pub stepped_value : Result ℕ Refusal → ℕ
stepped_value (Err x) = 0
stepped_value (Ok at) = at

-- the number of a step whose results have this size, if they are to end at `next`: "7, 8", in this order
abbrev pub step_number : ℕ → Option ℕ → ℕ
step_number next None = size_number None
step_number next (Some n) = pick (ltb next n) (number_of LongWaiting) 0

pub data Took (number : ℕ) (ws : List (List ℕ)) (old : List ℕ) (next : ℕ) (r : Result ℕ Refusal) (new : List ℕ) : Type 0 where
  long : r ≡ Err LongResult → sized ws ≡ None → new ≡ old → Took number ws old next r new
  room : (n : ℕ) → r ≡ Err LongWaiting → sized ws ≡ Some n → next < n → new ≡ old → Took number ws old next r new
  done : (n at : ℕ) → r ≡ Ok at → sized ws ≡ Some n → at + n ≡ next → new ≡ sets old at (in_frames number ws) → Took number ws old next r new
