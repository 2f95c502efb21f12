-- What is said of two tests of one variable.
use Rattle.std.specs.Prelude.{ℕ, ◌+◌, ◌<◌, Bool, true, false, List, length}
use Rattle.language.specs.Limits.{walked_pairs}
use Rattle.language.specs.Kinds.{pick}
use Rattle.language.specs.Trees.{Expr}
use Rattle.language.specs.Writing.{expr_words}
use Rattle.rules.specs.Walk.{long_walk, common_hedge, common_term}
use Rattle.expressions.specs.Standing.{Here}
use Rattle.clash.specs.declared.Verdict.{Verdict}
use Rattle.clash.specs.declared.Verdict.TheVariants.{Shares, Clashes, Long}

-- of a term variable, or of a hedge variable
unfoldable pub verdict_of : Bool → Expr → Expr → Verdict
verdict_of term R S =
    elim (long_walk walked_pairs R S) [
      | true ↦ Long
      | false ↦ elim (pick term (common_term R S) (common_hedge R S)) [ true ↦ Shares | false ↦ Clashes ]
    ]

-- two expressions, one behind the other, with something between them
pub record Two (k : List ℕ) (at other : ℕ) : Type 0 where
  pub first : Expr
  pub beyond : List ℕ
  pub one : Here k at first beyond
  pub second : Expr
  pub further : List ℕ
  pub two : Here k other second further
  pub apart : at + length (expr_words first) < other
