-- The plan of a rule of equations: which it is, and that it makes the rule's results.
use Rattle.std.specs.Prelude.{ℕ, ◌≡◌, List, ◌++◌}
use Rattle.std.proofs.Math.Option.{some}
use Rattle.language.specs.declared.Signature.{Signature}
use Rattle.language.specs.Trees.{Hedge, Conj}
use Rattle.rules.specs.Rules.{Branch, EqRule}
use Rattle.plans.specs.declared.Plan.{Plan}
use Rattle.views.specs.declared.View.{View}
use Rattle.views.specs.Views.{Sees}
use Rattle.plans.specs.Planned.{Planned}
use Rattle.rules.specs.Places.{at_r1, at_del1, at_del2, at_d1, at_d2, at_d0}
use Rattle.rules.specs.Ranks.{eqn_answer}
use Rattle.equation_recipes.specs.Recipes.{equation_plan}

-- an equation stands where the view says, and the rule applies to it
pub record Applies (rule : EqRule) (k : List ℕ) (v : View) (l r : Hedge) : Type 0 where
  pub before : Conj
  pub behind : Conj
  pub seen : Sees k v before l r behind
  pub results : List Branch
  pub answer : rule (before ++ behind) l r ≡ some results

-- the rule of a place in the list applies to the equation that stands where the view says
pub record RuleApplies (σ : Signature) (n : ℕ) (k : List ℕ) (v : View) : Type 0 where
  pub l : Hedge
  pub r : Hedge
  pub applies : Applies (eqn_answer σ n) k v l r

-- wherever the rule applies, p is the plan that is said
abbrev pub Is : EqRule → List ℕ → View → (Hedge → Hedge → Plan) → Plan → Type 0
Is rule k v plan p = (l r : Hedge) → Applies rule k v l r → p ≡ plan l r

-- the plan of the rule of a place in the list, at every equation that the view shows
pub record Planning (σ : Signature) (n : ℕ) (k : List ℕ) (v : View) (p : Plan) : Type 0 where
  pub whole : Is (eqn_answer σ n) k v (equation_plan σ n k v) p
  pub results : (before behind : Conj) (l r : Hedge) → Sees k v before l r behind → Planned k p before behind (eqn_answer σ n (before ++ behind) l r)

-- n is none of the places of the rules that move parts and look no further: R1, Del1, Del2, D1, D2, D0
pub record Further (n : ℕ) : Type 0 where
  pub not-R1 : n ≡ at_r1 → ⊥
  pub not-Del1 : n ≡ at_del1 → ⊥
  pub not-Del2 : n ≡ at_del2 → ⊥
  pub not-D1 : n ≡ at_d1 → ⊥
  pub not-D2 : n ≡ at_d2 → ⊥
  pub not-D0 : n ≡ at_d0 → ⊥
