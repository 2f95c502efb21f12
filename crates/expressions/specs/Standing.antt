-- That an expression stands at a place of the words, and what is said of its part of them.
use Rattle.std.specs.Prelude.{ℕ, ◌+◌, ◌≤◌, ◌≡◌, List, ◌++◌, length, drop}
use Rattle.language.specs.Limits.{desk}
use Rattle.language.specs.Trees.{Expr}
use Rattle.language.specs.Writing.{expr_words}
use Rattle.language.specs.Fine.{fine_expr}
use Rattle.rules.specs.Looks.{is_eps}
use Rattle.rules.specs.Expressions.{nullable}
use Rattle.expressions.specs.declared.Part.{Part}
use Rattle.expressions.specs.Passing.{part_at}

-- R stands in k at `at`, followed by `beyond`
pub record Here (k : List ℕ) (at : ℕ) (R : Expr) (beyond : List ℕ) : Type 0 where
  pub fine : fine_expr desk R
  pub words : drop at k ≡ expr_words R ++ beyond

-- p tells of R, which stands at `at`
pub record PartOf (at : ℕ) (R : Expr) (p : Part) : Type 0 where
  pub end : p.end ≡ at + length (expr_words R)
  pub null : p.null ≡ nullable R
  pub bare : p.bare ≡ is_eps R

-- p is what passing the words finds, within k, and tells of whatever stands in k at `at`
pub record Parted (k : List ℕ) (at : ℕ) (p : Part) : Type 0 where
  pub after : at ≤ p.end
  pub within : at ≤ length k → p.end ≤ length k
  pub is : p ≡ part_at k at
  pub each : (R : Expr) (beyond : List ℕ) → Here k at R beyond → PartOf at R p
