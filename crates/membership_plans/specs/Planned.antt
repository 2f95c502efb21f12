-- The plan of a rule of memberships: which it is, and that it makes the rule's results.
use Rattle.std.specs.Prelude.{ℕ, ◌≡◌, List, ◌++◌}
use Rattle.std.proofs.Math.Option.{some}
use Rattle.language.specs.declared.Signature.{Signature}
use Rattle.language.specs.Trees.{Hedge, Expr, Conj}
use Rattle.rules.specs.Rules.{Branch, InRule}
use Rattle.rules.specs.Places.{at_m2}
use Rattle.plans.specs.declared.Plan.{Plan}
use Rattle.views.specs.declared.Shape.{Shape}
use Rattle.views.specs.Views.{Shows}
use Rattle.rules.specs.Ranks.{mem_answer}
use Rattle.plans.specs.Planned.{Planned}
use Rattle.membership_plans.specs.Recipes.{membership_plan}

-- a membership of h in R stands where the shape says, and the rule applies to it
pub record Applies (rule : InRule) (k : List ℕ) (s : Shape) (h : Hedge) (R : Expr) : Type 0 where
  pub before : Conj
  pub behind : Conj
  pub shown : Shows k s before h R behind
  pub results : List Branch
  pub answer : rule (before ++ behind) h R ≡ some results

-- the rule of a place in the list, which is not M2, applies, for some symbols, to the membership that stands where the shape says
pub record RuleApplies (rank : ℕ) (k : List ℕ) (s : Shape) : Type 0 where
  pub σ : Signature
  pub h : Hedge
  pub R : Expr
  pub applies : Applies (mem_answer σ rank) k s h R
  pub other : rank ≡ at_m2 → ⊥

-- wherever the rule applies, p is the plan that is said
abbrev pub Is : InRule → List ℕ → Shape → (Hedge → Expr → Plan) → Plan → Type 0
Is rule k s plan p = (h : Hedge) (R : Expr) → Applies rule k s h R → p ≡ plan h R

-- the plan of the rule of a place in the list, at every membership that the shape shows, whichever symbols are unordered
pub record Answered (rank : ℕ) (k : List ℕ) (s : Shape) (p : Plan) : Type 0 where
  pub whole : (σ : Signature) → Is (mem_answer σ rank) k s (membership_plan rank k s) p
  pub results : (σ : Signature) (before : Conj) (h : Hedge) (R : Expr) (behind : Conj) → Shows k s before h R behind → Planned k p before behind (mem_answer σ rank (before ++ behind) h R)
