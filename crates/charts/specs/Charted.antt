-- For all places of the words where the expression there ends, and whether it is nullable.
use Rattle.std.specs.Prelude.{ℕ, ◌<◌, ◌≤◌, ◌≡◌, Bool, false, List, eqb, length, get_or}
use Rattle.expressions.specs.declared.Part.{Part}
use Rattle.expressions.specs.Standing.{Parted}

-- what the two tables tell of a place
abbrev pub told : List ℕ → List ℕ → List Bool → ℕ → Part
told k ends nulls i = record { end = get_or ends i 0; null = get_or nulls i false; bare = eqb (get_or k i 0) 7000 }

-- from `at` on they tell what passing the words there finds
pub record ChartedFrom (at : ℕ) (k ends : List ℕ) (nulls : List Bool) : Type 0 where
  pub ends-room : length k ≤ length ends
  pub nulls-room : length k ≤ length nulls
  pub each : (i : ℕ) → at ≤ i → i < length k → Parted k i (told k ends nulls i)

-- the whole chart, and what stands behind the words' places in the two tables is the same
pub record Charts (k ends : List ℕ) (nulls : List Bool) (ends' : List ℕ) (nulls' : List Bool) : Type 0 where
  pub here : ChartedFrom 0 k ends' nulls'
  pub ends-long : length ends' ≡ length ends
  pub nulls-long : length nulls' ≡ length nulls
  pub ends-kept : (i : ℕ) → length k ≤ i → get_or ends' i 0 ≡ get_or ends i 0
  pub nulls-kept : (i : ℕ) → length k ≤ i → get_or nulls' i false ≡ get_or nulls i false
