-- Where the first undeclared number stands.
use Rattle.std.specs.Prelude.{ℕ, ◌+◌, List, [], ◌∷◌, Option, Some, None}
use Rattle.language.specs.Limits.{Limits}
use Rattle.language.specs.Kinds.{pick}
use Rattle.language.specs.Trees.{Counts}
use Rattle.language.specs.Undeclared.{declared_word}

-- in words that stand from `at` on
unfoldable pub first_undeclared : Limits → Counts → ℕ → List ℕ → Option ℕ
first_undeclared L n at [] = None
first_undeclared L n at (w ∷ ws) = pick (declared_word L n w) (first_undeclared L n (at + 1) ws) (Some at)
