-- The rule of each place in the list, at an equation.
use Prim.Native.Nat.{ℕ, zero, suc}
use mathlib.Core.Path.{◌≡◌, sym, ap, ◌∙◌, subst}
use mathlib.Core.List.{List, [], ◌∷◌}
use Rattle.language.specs.declared.Signature.{Signature}
use Rattle.language.specs.Trees.{Hedge}
use Rattle.rules.specs.Looks.{lone_t, lone_h, lone_node, as_symbol}
use Rattle.rules.specs.Rules.{R1, F1, F2, F3, F4, Del1, Del2, Del3, D1, D2, D0, E1, E2, E3, E4, E5, E6, E7, Rule, on_eqn, on_mem, on_pair, rules}
use Rattle.rules.specs.Places.{at_r1, at_del1, at_del2, at_del3, at_d1, at_d2, at_d0, at_e1, at_e2, at_e3, at_e4, at_e5, at_e6, at_e7}
use Rattle.rules.proofs.Answers.{look, test, answers}
use Rattle.plans.specs.declared.Plan.{Plan}
use Rattle.views.specs.declared.View.{View}
use Rattle.plans.specs.Results.{results_of}
use Rattle.rules.specs.Ranks.{at_eqn, answer_at, eqn_answer}
use Rattle.plans.proofs.Ranking.{◌▸◌, Apart, not-tabled}
use Rattle.plans.specs.Slots.{drop_plan}
use Rattle.plans.proofs.Planned.{planned, not_there, it-found, nothing_left}
use Rattle.equation_recipes.specs.Recipes.{r1_plan, del1_plan, del2_plan, d1_plan, d2_plan, d0_plan, e1_plan, e3_plan, e4_plan, e5_plan, e6_plan, e7_plan, del3_plan, spot_of, equation_plans, equation_plan}
use Rattle.equation_recipes.specs.Planned.{Is, Planning}
use Rattle.equation_recipes.proofs.Plain.{Makes, r1-plans, del1-plans, d2-plans, d0-plans}
use Rattle.equation_recipes.proofs.Eliminating.{e1-plans, e2-plans, e5-plans, e6-plans}
use Rattle.equation_recipes.proofs.Unordered.{del2-plans, d1-plans, e7-plans}
use Rattle.equation_recipes.proofs.Cutting.{e3-plans, e4-plans, del3-plans}

-- ---- the F rules leave nothing

module _ (k : List ℕ) (v : View) where
  f1-drops : Makes F1 k v (λ l r. drop_plan)
  f1-drops before behind l r w = planned (look (lone_t l) (it-found (lone_t l)) λ _ _. test _ λ _ _. answers (nothing_left k before behind))

  f2-drops : Makes F2 k v (λ l r. drop_plan)
  f2-drops before behind l r w = planned (look (lone_h l) (it-found (lone_h l)) λ _ _. test _ λ _ _. test _ λ _ _. answers (nothing_left k before behind))

  f3-drops : Makes F3 k v (λ l r. drop_plan)
  f3-drops before behind l r w = planned
      (look (lone_node l) (it-found (lone_node l)) λ a _. look (lone_node r) (it-found (lone_node r)) λ b _.
      look (as_symbol a.0) (it-found (as_symbol a.0)) λ _ _. look (as_symbol b.0) (it-found (as_symbol b.0)) λ _ _. test _ λ _ _. answers (nothing_left k before behind))

  f4-drops : Makes F4 k v (λ l r. drop_plan)
  f4-drops before behind l r w = planned (test _ λ _ _. test _ λ _ _. answers (nothing_left k before behind))

  -- a plan for each rule of equations among these, in their order, makes what the rule answers
  abbrev Plans : List Rule → (ℕ → Hedge → Hedge → Plan) → Type 0
  Plans [] plan = Unit {0}
  Plans (on_eqn rule ∷ rs) plan = Makes rule k v (plan zero) × Plans rs (λ n. plan (suc n))
  Plans (on_mem rule ∷ rs) plan = Plans rs (λ n. plan (suc n))
  Plans (on_pair rule ∷ rs) plan = Plans rs (λ n. plan (suc n))

  made : (rs : List Rule) (plan : ℕ → Hedge → Hedge → Plan) → Plans rs plan → (n : ℕ) → Makes (λ K l r. answer_at (λ rule. at_eqn rule K l r) rs n) k v (plan n)
  made [] plan p n = λ before behind l r w. not_there
  made (on_eqn rule ∷ rs) plan p zero = p.0
  made (on_eqn rule ∷ rs) plan p (suc n) = made rs (λ m. plan (suc m)) p.1 n
  made (on_mem rule ∷ rs) plan p zero = λ before behind l r w. not_there
  made (on_mem rule ∷ rs) plan p (suc n) = made rs (λ m. plan (suc m)) p n
  made (on_pair rule ∷ rs) plan p zero = λ before behind l r w. not_there
  made (on_pair rule ∷ rs) plan p (suc n) = made rs (λ m. plan (suc m)) p n

-- the plan of every place makes what its rule answers; a rule that is not of equations does not answer
pub plan-law : (σ : Signature) (k : List ℕ) (v : View) (n : ℕ) → Makes (eqn_answer σ n) k v (equation_plan σ n k v)
unfolding eqn_answer equation_plan
plan-law σ k v n =
    made k v (rules σ) (λ n. equation_plan σ n k v)
    (r1-plans k v ▸ f1-drops k v ▸ f2-drops k v ▸ f3-drops k v ▸ f4-drops k v
    ▸ del1-plans k v ▸ del2-plans σ k v ▸ del3-plans k v ▸ d1-plans σ k v ▸ d2-plans k v ▸ d0-plans σ k v
    ▸ e1-plans k v ▸ e2-plans k v ▸ e3-plans k v ▸ e4-plans k v ▸ e5-plans k v ▸ e6-plans k v ▸ e7-plans σ k v
    ▸ tt) n

-- what is the plan of its rule wherever the rule applies makes what the rule answers
planning : {σ : Signature} {n : ℕ} {k : List ℕ} {v : View} {p : Plan} → Is (eqn_answer σ n) k v (equation_plan σ n k v) p → Planning σ n k v p
planning {σ} {n} {k} {v} {p} e =
    record {
      whole = e;
      results = λ before behind l r w. record {
        results = λ bs a.
            ap (results_of k) (e l r (record { before = before; behind = behind; seen = w; results = bs; answer = a })) ∙ (plan-law σ k v n before behind l r w).results bs a;
      };
    }

-- the plan of a place is known, and the place
for-rank : {σ : Signature} {n : ℕ} {k : List ℕ} {v : View} {p : Plan} (m : ℕ) → n ≡ m → Is (eqn_answer σ m) k v (equation_plan σ m k v) p → Planning σ n k v p
for-rank {σ} {n} {k} {v} {p} m e d = planning (subst (λ (i : ℕ). Is (eqn_answer σ i) k v (equation_plan σ i k v) p) (sym e) d)

-- ---- the rule and the plan of each place

module _ {σ : Signature} {n : ℕ} {k : List ℕ} {v : View} {p : Plan} where
  pub for-R1 : n ≡ at_r1 → Is R1 k v (λ l r. r1_plan v) p → Planning σ n k v p
  unfolding eqn_answer equation_plan
  for-R1 e d = for-rank at_r1 e d

  pub for-Del1 : n ≡ at_del1 → Is Del1 k v (λ l r. del1_plan v) p → Planning σ n k v p
  unfolding eqn_answer equation_plan
  for-Del1 e d = for-rank at_del1 e d

  pub for-Del2 : n ≡ at_del2 → Is (Del2 σ) k v (λ l r. del2_plan k v) p → Planning σ n k v p
  unfolding eqn_answer equation_plan
  for-Del2 e d = for-rank at_del2 e d

  pub for-D1 : n ≡ at_d1 → Is (D1 σ) k v (λ l r. d1_plan k v r) p → Planning σ n k v p
  unfolding eqn_answer equation_plan
  for-D1 e d = for-rank at_d1 e d

  pub for-E7 : n ≡ at_e7 → Is (E7 σ) k v (λ l r. e7_plan k v σ.symbols) p → Planning σ n k v p
  unfolding eqn_answer equation_plan
  for-E7 e d = for-rank at_e7 e d

  pub for-Del3 : n ≡ at_del3 → Is Del3 k v (λ l r. del3_plan k v (spot_of v l r)) p → Planning σ n k v p
  unfolding eqn_answer equation_plan
  for-Del3 e d = for-rank at_del3 e d

  pub for-D2 : n ≡ at_d2 → Is D2 k v (λ l r. d2_plan v) p → Planning σ n k v p
  unfolding eqn_answer equation_plan
  for-D2 e d = for-rank at_d2 e d

  pub for-D0 : n ≡ at_d0 → Is (D0 σ) k v (λ l r. d0_plan k v) p → Planning σ n k v p
  unfolding eqn_answer equation_plan
  for-D0 e d = for-rank at_d0 e d

  pub for-E1 : n ≡ at_e1 → Is E1 k v (λ l r. e1_plan k v) p → Planning σ n k v p
  unfolding eqn_answer equation_plan
  for-E1 e d = for-rank at_e1 e d

  pub for-E2 : n ≡ at_e2 → Is E2 k v (λ l r. e1_plan k v) p → Planning σ n k v p
  unfolding eqn_answer equation_plan
  for-E2 e d = for-rank at_e2 e d

  pub for-E3 : n ≡ at_e3 → Is E3 k v (λ l r. e3_plan v r) p → Planning σ n k v p
  unfolding eqn_answer equation_plan
  for-E3 e d = for-rank at_e3 e d

  pub for-E4 : n ≡ at_e4 → Is E4 k v (e4_plan v) p → Planning σ n k v p
  unfolding eqn_answer equation_plan
  for-E4 e d = for-rank at_e4 e d

  pub for-E5 : n ≡ at_e5 → Is E5 k v (λ l r. e5_plan k v) p → Planning σ n k v p
  unfolding eqn_answer equation_plan
  for-E5 e d = for-rank at_e5 e d

  pub for-E6 : n ≡ at_e6 → Is E6 k v (λ l r. e6_plan k v) p → Planning σ n k v p
  unfolding eqn_answer equation_plan
  for-E6 e d = for-rank at_e6 e d

  pub dropped : Apart n (at_r1 ∷ at_del1 ∷ at_del2 ∷ at_del3 ∷ at_d1 ∷ at_d2 ∷ at_d0 ∷ at_e1 ∷ at_e2 ∷ at_e3 ∷ at_e4 ∷ at_e5 ∷ at_e6 ∷ at_e7 ∷ []) → p ≡ drop_plan → Planning σ n k v p
  unfolding equation_plan
  dropped a e = planning (λ l r _. e ∙ sym (not-tabled n (equation_plans σ k v l r) a))
