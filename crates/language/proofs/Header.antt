-- The first word of a question: how many symbols, and how many of these are unordered.
use Prim.Native.Nat.{ℕ, ◌+◌, ◌-◌, ◌*◌, ◌<◌}
use mathlib.Core.Path.{◌≡◌, refl}
use mathlib.Core.Bool.{Bool, true, false}
use mathlib.Core.List.{List, ◌∷◌}
use native.Mathlib.Omega.{arith}
use lib.Dec.{leb}
use lib.ListN.{get_or}
use borrow.Author.Tests.{leb-true, leb-false, le-leb, lt-leb}
use Rattle.language.specs.Question.{counts_of}

-- "symbols + 256 times u"
pub first-word : (s u : ℕ) (ws : List ℕ) → s < 256 → ((counts_of ((s + 256 * u) ∷ ws)).symbols ≡ s) × ((counts_of ((s + 256 * u) ∷ ws)).unordered ≡ u)
first-word s u ws b = (omega arith, omega arith)

-- a question as it was written before there were unordered symbols
pub first-word-before : (ws : List ℕ) → get_or ws 0 0 < 256 → ((counts_of ws).symbols ≡ get_or ws 0 0) × ((counts_of ws).unordered ≡ 0)
first-word-before ws b = (omega arith, omega arith)

-- of so many symbols f is one of the last u: counted from f to the end, or from the first on
pub from-the-end : (s f u : ℕ) → f < s → leb (s - f) u ≡ leb s (f + u)
from-the-end s f u p = go (leb s (f + u)) refl
  where
    go : (b : Bool) → leb s (f + u) ≡ b → leb (s - f) u ≡ b
    go true e = le-leb (s - f) u (omega (arith, leb-true s (f + u) e))
    go false e = lt-leb (s - f) u (omega (arith, leb-false s (f + u) e, p))
