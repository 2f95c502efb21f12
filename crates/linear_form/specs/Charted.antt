-- The place after each expression, kept for all places.
use Rattle.std.specs.Prelude.{ℕ, ◌+◌, ◌<◌, ◌≤◌, ◌≡◌, List, length, drop, get_or}
use Rattle.language.specs.Trees.{Expr}
use Rattle.language.specs.Writing.{expr_words}
use Rattle.expressions.specs.Passing.{reach}
use Rattle.expressions.specs.Standing.{Here}

-- from `at` on, `ends` has for each place of k the place after the expression there
pub record ChartedFrom (at : ℕ) (k ends : List ℕ) : Type 0 where
  pub room : length k ≤ length ends
  pub each : (i : ℕ) → at ≤ i → i < length k → get_or ends i 0 ≡ i + reach 1 (drop i k)

-- e is the place after whatever stands in k at `at`
pub record Past (k : List ℕ) (at e : ℕ) : Type 0 where
  pub after : at ≤ e
  pub within : at ≤ length k → e ≤ length k
  pub is : e ≡ at + reach 1 (drop at k)
  pub each : (R : Expr) (beyond : List ℕ) → Here k at R beyond → e ≡ at + length (expr_words R)
