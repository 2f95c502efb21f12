-- The symbols that can be read next in a state, marked on their places.
use Rattle.std.specs.Prelude.{ℕ, ◌≡◌, Bool, length}
use mathlib.Core.List.{List, map, Memᴰ}
use Rattle.language.specs.Trees.{Expr}
use Rattle.rules.specs.Expressions.{nullable, linear}
use Rattle.expressions.specs.Standing.{Here}
use Rattle.walk.specs.Spots.{Spot, monomial}
use Rattle.charts.specs.Levels.{place_of}
use Rattle.state_classes.specs.States.{Spotted, Means}
use Rattle.clash.specs.Marks.{places_of, marked}

-- the monomials of X are those of the spots ps, all of them symbols of the expression at l
pub record Nexts (at : ℕ) (R X : Expr) (l : ℕ) (ps : List Spot) : Type 0 where
  pub monomials : linear X ≡ map monomial ps
  pub spotted : (q : Spot) → Memᴰ q ps → Spotted at R (place_of l q) l q

-- the places of these are marked, of whatever the state s means; r: nothing need be read
pub record FollowedBy (at : ℕ) (R X : Expr) (old new : List Bool) (r : Bool) : Type 0 where
  pub level : ℕ
  pub spots : List Spot
  pub nexts : Nexts at R X level spots
  pub marks : new ≡ marked (places_of level spots) old
  pub null : r ≡ nullable X

pub record Followed (k : List ℕ) (at s : ℕ) (old new : List Bool) (r : Bool) : Type 0 where
  pub long : length new ≡ length old
  pub each : (R : Expr) (w : List ℕ) → Here k at R w → (X : Expr) → Means at R s X → FollowedBy at R X old new r
