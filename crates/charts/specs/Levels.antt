-- A symbol's place says all: the inner expression that it is a symbol of, and the way down to it.
use Rattle.std.specs.Prelude.{ℕ, zero, suc, ◌+◌, ◌<◌, ◌≤◌, true, false, ◌≡◌, List, ◌++◌, eqb, ltb, leb, length, get_or}
use Rattle.language.specs.Kinds.{pick}
use Rattle.language.specs.Trees.{Expr, eps, cat, alt, star, over}
use Rattle.language.specs.Writing.{expr_words}
use Rattle.expressions.specs.Passing.{part_at}
use Rattle.expressions.specs.Standing.{Here}
use Rattle.walk.specs.Spots.{Spot, here, in_left, in_right, in_first, in_second, in_star}

-- where the symbol of a spot stands, if its expression stands at `at`
abbrev pub place_of : ℕ → Spot → ℕ
place_of at (here f R) = at
place_of at (in_left p b) = place_of (at + 1) p
place_of at (in_right a p) = place_of (at + 1 + length (expr_words a)) p
place_of at (in_first p b) = place_of (at + 1) p
place_of at (in_second a p) = place_of (at + 1 + length (expr_words a)) p
place_of at (in_star p) = place_of (at + 1) p

-- no symbol; one of the expression itself; or one of an inner expression, which stands at that place
pub data Sought : Type 0 where
  nowhere : Sought
  on_top : Spot → Sought
  below : ℕ → Spot → Sought

abbrev pub through : (Spot → Spot) → Sought → Sought
through f nowhere = nowhere
through f (on_top p) = on_top (f p)
through f (below l p) = below l p

abbrev pub under : ℕ → Sought → Sought
under l nowhere = nowhere
under l (on_top p) = below l p
under l (below m p) = below m p

-- the symbol at j, where R stands at `at`
abbrev pub sought : ℕ → Expr → ℕ → Sought
sought at eps j = nowhere
sought at (cat a b) j =
    elim (ltb j (at + 1 + length (expr_words a))) [
      | true ↦ through (λ p. in_left p b) (sought (at + 1) a j)
      | false ↦ through (in_right a) (sought (at + 1 + length (expr_words a)) b j)
    ]
sought at (alt a b) j =
    elim (ltb j (at + 1 + length (expr_words a))) [
      | true ↦ through (λ p. in_first p b) (sought (at + 1) a j)
      | false ↦ through (in_second a) (sought (at + 1 + length (expr_words a)) b j)
    ]
sought at (star a) j = through in_star (sought (at + 1) a j)
sought at (over f a) j = elim (eqb j at) [ true ↦ on_top (here f a) | false ↦ under (at + 1) (sought (at + 1) a j) ]

-- ---- on the way to a symbol

-- by the words alone, whatever they are: from x the part in which the symbol at j stands, further on
unfoldable pub lower_at : List ℕ → ℕ → ℕ → ℕ
lower_at k x j = pick (pick (eqb (get_or k x 0) 7003) false (leb (part_at k (x + 1)).end j)) (part_at k (x + 1)).end (x + 1)

-- at most n steps down from x, which is in the expression at l
unfoldable pub level_from : ℕ → List ℕ → ℕ → ℕ → ℕ → ℕ
level_from zero k x l j = l
level_from (suc n) k x l j =
    pick (ltb x j) (pick (ltb x (length k)) (pick (ltb (get_or k x 0) 7000) (level_from n k (x + 1) (x + 1) j) (level_from n k (lower_at k x j) l j)) l) l

-- every step goes at least one place on
abbrev pub level_of : List ℕ → ℕ → ℕ → ℕ
level_of k at j = level_from j k at at j

-- y, further on than x, is where the part stands in which the symbol at j is, if one of these stands at x
pub record Lowered (k : List ℕ) (x j y : ℕ) : Type 0 where
  pub is : y ≡ lower_at k x j
  pub further : x < y
  pub star : (a : Expr) (w : List ℕ) → Here k x (star a) w → y ≡ x + 1
  pub first : (a b : Expr) (w : List ℕ) → Here k (x + 1) a (expr_words b ++ w) → 7000 < get_or k x 0 → get_or k x 0 < 7003 → j < x + 1 + length (expr_words a) → y ≡ x + 1
  pub second : (a b : Expr) (w : List ℕ) → Here k (x + 1) a (expr_words b ++ w) → 7000 < get_or k x 0 → get_or k x 0 < 7003 → x + 1 + length (expr_words a) ≤ j → y ≡ x + 1 + length (expr_words a)

-- l is where the expression stands that the symbol at j is a symbol of
pub record Leveled (k : List ℕ) (at j l : ℕ) : Type 0 where
  pub is : l ≡ level_of k at j
  pub top : (R : Expr) (w : List ℕ) → Here k at R w → (p : Spot) → sought at R j ≡ on_top p → l ≡ at
  pub deeper : (R : Expr) (w : List ℕ) → Here k at R w → (m : ℕ) (p : Spot) → sought at R j ≡ below m p → l ≡ m
