-- The run without limits: the rules with a clash that walks as far as it has to, and what becomes of the waiting conjunctions.
use Rattle.std.specs.Prelude.{ℕ, zero, suc, ◌≡◌, true, false, ◌||◌}
use mathlib.Core.List.{List, [], ◌∷◌, ◌++◌, Memᴰ}
use Rattle.std.proofs.Math.Option.{none, some}
use Rattle.language.specs.declared.Signature.{Signature}
use Rattle.language.specs.Trees.{Expr, eqn, mem, Conj, is_unordered, Var}
use Rattle.rules.specs.Solved.{lone_var}
use Rattle.rules.specs.Clash.{Unordered, mentions, agree, is_lone}
use Rattle.rules.specs.Reply.{Reply, nothing, results, or_next, PairRule}
use Rattle.rules.specs.Rules.{Rule, on_pair, rules}
use Rattle.rules.specs.Step.{Spot, rule_at, each, first}
use Rattle.rules.specs.Run.{Numbered, all_of}

-- ---- the clash, however many pairs its walk reaches

abbrev pub walk_pair : Unordered → Var → Expr → Expr → Reply (List Conj)
walk_pair u v R S =
    elim (mentions u R || mentions u S) [
      | true ↦ nothing
      | false ↦ elim (agree v R S) [ true ↦ nothing | false ↦ results [] ]
    ]

abbrev pub walk_behind : Unordered → Var → Expr → Conj → Reply (List Conj)
walk_behind u v R [] = nothing
walk_behind u v R (eqn l r ∷ k) = walk_behind u v R k
walk_behind u v R (mem h S ∷ k) =
    elim (is_lone v h) [
      | true ↦ or_next (walk_pair u v R S) (λ _. walk_behind u v R k)
      | false ↦ walk_behind u v R k
    ]

abbrev pub FreeClash : Signature → PairRule
FreeClash σ (eqn l r) behind = nothing
FreeClash σ (mem h R) behind = elim (lone_var h) [ none ↦ nothing | some v ↦ walk_behind (is_unordered σ) v R behind ]

-- ---- the rules with it

-- a list with another last element
abbrev pub ending_in : Rule → List Rule → List Rule
ending_in last [] = []
ending_in last (rule ∷ []) = last ∷ []
ending_in last (rule ∷ next ∷ rs) = rule ∷ ending_in last (next ∷ rs)

abbrev pub free_rules : Signature → List Rule
free_rules σ = ending_in (on_pair (FreeClash σ)) (rules σ)

-- the step at a named place, and the first that there is
unfoldable pub free_step_at : Signature → Spot → Conj → Reply (List Conj)
free_step_at σ s k = rule_at s.swapped s.literal s.rule (free_rules σ) k

unfoldable pub free_step : Signature → Conj → Reply (List Conj)
free_step σ k = each (λ (f : Spot × List Conj). f.1) (first 0 (free_rules σ) k)

-- ---- the run

-- From what waits to the lines, in so many steps: as in the desk's run, but nothing is measured and nothing is refused.
pub data Goes (σ : Signature) : List Numbered → List Numbered → ℕ → Type 0 where
  done : Goes σ [] [] zero
  line : {w ls : List Numbered} {n : ℕ} (k : Numbered) → free_step σ k.literals ≡ nothing → Goes σ w ls n → Goes σ (k ∷ w) (k ∷ ls) n
  made : {ls : List Numbered} (n : ℕ) (k : Numbered) (w : List Numbered) (ks : List Conj) → free_step σ k.literals ≡ results ks → Goes σ (all_of k.number ks ++ w) ls n
      → Goes σ (k ∷ w) ls (suc n)

-- Whatever rule is chosen wherever it applies, and whatever is chosen after it: there is no way on for ever.
pub data Ends (σ : Signature) : Conj → Type 0 where
  ends : {k : Conj} → ((s : Spot) (ks : List Conj) → free_step_at σ s k ≡ results ks → (j : Conj) → Memᴰ j ks → Ends σ j) → Ends σ k
