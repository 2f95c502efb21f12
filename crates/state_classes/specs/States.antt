-- The states of an expression, by the places of its symbols: what is inside a symbol, and what is left after it.
use Rattle.std.specs.Prelude.{ℕ, ◌+◌, ◌*◌, ◌≡◌, ◌⊎◌}
use Rattle.language.specs.Trees.{Expr}
use Rattle.walk.specs.Spots.{Spot, inner_at, rest_at}
use Rattle.charts.specs.Levels.{on_top, below, sought}

-- the symbol at j is the spot p of the expression that stands at l
abbrev pub Spotted : ℕ → Expr → ℕ → ℕ → Spot → Type 0
Spotted at R j l p = ((l ≡ at) × (sought at R j ≡ on_top p)) ⊎ (sought at R j ≡ below l p)

-- The states of R, which stands at `at`: twice a place is the expression there, R itself or what is inside a symbol; and one more is what is left after
-- the symbol there.
pub data Means (at : ℕ) (R : Expr) (s : ℕ) (X : Expr) : Type 0 where
  itself : s ≡ 2 * at → X ≡ R → Means at R s X
  inside : (j l : ℕ) (p : Spot) → Spotted at R j l p → s ≡ 2 * (j + 1) → X ≡ inner_at p → Means at R s X
  after : (j l : ℕ) (p : Spot) → Spotted at R j l p → s ≡ 2 * j + 1 → X ≡ rest_at p → Means at R s X
