-- Marks on the places of spots.
use Rattle.std.specs.Prelude.{ℕ, ◌≡◌, Bool, true, List, [], ◌∷◌, map, length, set}
use Rattle.language.specs.Trees.{Expr}
use Rattle.rules.specs.Expressions.{nullable}
use Rattle.walk.specs.Spots.{Spot, whole, rest_at, firsts, nexts}
use Rattle.expressions.specs.Standing.{Here}
use Rattle.charts.specs.Levels.{place_of}

abbrev pub places_of : ℕ → List Spot → List ℕ
places_of at ps = map (place_of at) ps

-- each of the places is marked
abbrev pub marked : List ℕ → List Bool → List Bool
marked [] f = f
marked (p ∷ ps) f = marked ps (set f p true)

-- of whatever stands at `at` the symbols that can be read first are marked
pub record Begun (k : List ℕ) (at : ℕ) (old new : List Bool) : Type 0 where
  pub long : length new ≡ length old
  pub each : (R : Expr) (beyond : List ℕ) → Here k at R beyond → new ≡ marked (places_of at (firsts R)) old

-- of whatever stands at `at` the symbols that can be read after the one at p are marked; r: nothing more need be read
pub record Resumed (k : List ℕ) (at p : ℕ) (old new : List Bool) (r : Bool) : Type 0 where
  pub long : length new ≡ length old
  pub each : (s : Spot) (beyond : List ℕ) → Here k at (whole s) beyond → place_of at s ≡ p → (new ≡ marked (places_of at (nexts s)) old) × (r ≡ nullable (rest_at s))
