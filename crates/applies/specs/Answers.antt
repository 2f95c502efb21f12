-- Whether the rule of a place in the list, one of a single literal, answers at a literal among the others K, as it is written or with its sides swapped.
use Rattle.std.specs.Prelude.{ℕ, Bool, not, ◌&&◌}
use Rattle.language.specs.declared.Signature.{Signature}
use Rattle.language.specs.Kinds.{pick}
use Rattle.language.specs.Trees.{Literal, eqn, mem, Conj}
use Rattle.rules.specs.Ranks.{eqn_answer, mem_answer}
use Rattle.rules.specs.Solved.{is_some}

-- a membership has no other side
abbrev pub answers_at : Signature → ℕ → Bool → Conj → Literal → Bool
answers_at σ n swap K (eqn l r) = is_some (eqn_answer σ n K (pick swap r l) (pick swap l r))
answers_at σ n swap K (mem h R) = not swap && is_some (mem_answer σ n K h R)
