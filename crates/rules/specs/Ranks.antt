-- Which rule comes first at one literal: its place in the list of rules.
use Rattle.std.specs.Prelude.{ℕ, zero, suc, List, [], ◌∷◌}
use Rattle.std.proofs.Math.Option.{none}
use Rattle.language.specs.Kinds.{pick}
use Rattle.language.specs.declared.Signature.{Signature}
use Rattle.language.specs.Trees.{Hedge, Expr, Conj}
use Rattle.rules.specs.Rules.{Answer, Rule, on_eqn, on_mem, on_pair, rules}
use Rattle.rules.specs.Solved.{is_some}

-- a rule of one literal at an equation seen from the side l, and at a membership
abbrev pub at_eqn : Rule → Conj → Hedge → Hedge → Answer
at_eqn (on_eqn rule) K l r = rule K l r
at_eqn (on_mem rule) K l r = none
at_eqn (on_pair rule) K l r = none

abbrev pub at_mem : Rule → Conj → Hedge → Expr → Answer
at_mem (on_eqn rule) K h R = none
at_mem (on_mem rule) K h R = rule K h R
at_mem (on_pair rule) K h R = none

-- the place of the first that answers, or their number
abbrev pub first_of : (Rule → Answer) → List Rule → ℕ
first_of at [] = 0
first_of at (rule ∷ rs) = pick (is_some (at rule)) 0 (suc (first_of at rs))

unfoldable pub eqn_rank : Signature → Conj → Hedge → Hedge → ℕ
eqn_rank σ K l r = first_of (λ rule. at_eqn rule K l r) (rules σ)

unfoldable pub mem_rank : Signature → Conj → Hedge → Expr → ℕ
mem_rank σ K h R = first_of (λ rule. at_mem rule K h R) (rules σ)

-- what the rule of a place answers
abbrev pub answer_at : (Rule → Answer) → List Rule → ℕ → Answer
answer_at at [] n = none
answer_at at (rule ∷ rs) n = elim n [ ℕ.zero ↦ at rule | ℕ.suc m ↦ answer_at at rs m ]

unfoldable pub eqn_answer : Signature → ℕ → Conj → Hedge → Hedge → Answer
eqn_answer σ n K l r = answer_at (λ rule. at_eqn rule K l r) (rules σ) n

unfoldable pub mem_answer : Signature → ℕ → Conj → Hedge → Expr → Answer
mem_answer σ n K h R = answer_at (λ rule. at_mem rule K h R) (rules σ) n
