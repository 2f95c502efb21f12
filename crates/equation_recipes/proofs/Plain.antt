-- The plans of the rules that replace nothing make the words of their results.
use Prim.Native.Nat.{ℕ}
use mathlib.Core.Path.{◌≡◌, refl}
use mathlib.Core.List.{List, [], ◌∷◌, ◌++◌, append_assoc, append-nil}
use Rattle.language.specs.declared.Signature.{Signature}
use Rattle.language.specs.Trees.{Hedge, ε, tvar, hvar, node, eqn, Conj}
use Rattle.rules.specs.Rules.{plain, EqRule, R1, Del1, D2, D0}
use Rattle.rules.specs.Looks.{first_term, first_run, lone_node}
use Rattle.rules.proofs.Answers.{Where, look, test, answers}
use Rattle.rules.proofs.Looks.{lone_node-is}
use Rattle.plans.specs.declared.Plan.{Plan}
use Rattle.views.specs.declared.View.{View}
use Rattle.views.specs.Looks.{head, tail}
use Rattle.views.specs.Views.{Sees}
use Rattle.plans.specs.Results.{numbered}
use Rattle.views.proofs.Words.{words-body, words_append}
use Rattle.views.proofs.Sides.{side-head, side-tail, sees-before, sees-behind}
use Rattle.plans.specs.Planned.{Planned}
use Rattle.plans.proofs.Planned.{planned, one-result}
use Rattle.plans.proofs.Sides.{side-children, side-forth}
use Rattle.equation_recipes.specs.Recipes.{r1_plan, del1_plan, d2_plan, d0_plan}

-- at every equation that the view shows, the plan makes what the rule answers
abbrev pub Makes : EqRule → List ℕ → View → (Hedge → Hedge → Plan) → Type 0
Makes rule k v plan = (before behind : Conj) (l r : Hedge) → Sees k v before l r behind → Planned k (plan l r) before behind (rule (before ++ behind) l r)

-- ---- R1

pub r1-plans : (k : List ℕ) (v : View) → Makes R1 k v (λ l r. r1_plan v)
unfolding numbered
r1-plans k v before behind l r w = planned (test _ λ _ _. answers (one-result k before behind (r1_plan v).first (r1_plan v).first 0 (plain []) (simp (sees-before w, sees-behind w, words_append, append-nil))))

-- ---- Del1

tail-of-run : (h : Hedge) → Where (λ a. a.1 ≡ tail h) (first_run h)
tail-of-run ε = tt
tail-of-run (tvar x r) = tt
tail-of-run (hvar p r) = refl
tail-of-run (node f c r) = tt

pub del1-plans : (k : List ℕ) (v : View) → Makes Del1 k v (λ l r. del1_plan v)
unfolding numbered
del1-plans k v before behind l r w = planned
    (look (first_run l) (tail-of-run l) λ a p. look (first_run r) (tail-of-run r) λ b q. test _ λ _ _.
    answers (one-result k before behind (del1_plan v).first (del1_plan v).first 0 (plain (eqn a.1 b.1 ∷ []))
    (simp (p, q, sees-before w, sees-behind w, side-tail w.left, side-tail w.right, words_append, append_assoc, append-nil))))

-- ---- D2

parts-of-term : (h : Hedge) → Where (λ a. (a.0 ≡ head h) × (a.1 ≡ tail h)) (first_term h)
parts-of-term ε = tt
parts-of-term (tvar x r) = (refl, refl)
parts-of-term (hvar p r) = tt
parts-of-term (node f c r) = (refl, refl)

pub d2-plans : (k : List ℕ) (v : View) → Makes D2 k v (λ l r. d2_plan v)
unfolding numbered
d2-plans k v before behind l r w = planned
    (look (first_term l) (parts-of-term l) λ a p. look (first_term r) (parts-of-term r) λ b q. test _ λ _ _.
    answers (one-result k before behind (d2_plan v).first (d2_plan v).first 0 (plain (eqn a.0 b.0 ∷ eqn a.1 b.1 ∷ []))
    (simp (
      p.0,
      p.1,
      q.0,
      q.1,
      sees-before w,
      sees-behind w,
      side-head w.left,
      side-head w.right,
      side-tail w.left,
      side-tail w.right,
      words_append,
      words-body (head l),
      words-body (head r),
      append_assoc,
      append-nil,
    ))))

-- ---- D0

pub d0-plans : (σ : Signature) (k : List ℕ) (v : View) → Makes (D0 σ) k v (λ l r. d0_plan k v)
unfolding numbered
d0-plans σ k v before behind l r w = planned
    (look (lone_node l) (lone_node-is l) λ a p. look (lone_node r) (lone_node-is r) λ b q. test _ λ _ _. test _ λ _ _.
    answers (one-result k before behind (d0_plan k v).first (d0_plan k v).first 0 (plain (eqn a.1 b.1 ∷ []))
    (simp (side-forth w.left, side-forth w.right, sees-before w, sees-behind w, side-children a.0 a.1 w.left p, side-children b.0 b.1 w.right q, words_append, append_assoc, append-nil))))
