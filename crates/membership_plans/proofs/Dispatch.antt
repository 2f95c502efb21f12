-- The rule of each place in the list, at a membership.
use Prim.Native.Nat.{ℕ, zero, suc}
use mathlib.Core.Path.{◌≡◌, refl, sym, ap, subst, ◌∙◌}
use mathlib.Core.List.{List, [], ◌∷◌}
use Rattle.language.specs.declared.Signature.{Signature}
use Rattle.language.specs.Trees.{Hedge, Expr}
use native.Mathlib.Omega.{arith}
use Rattle.rules.specs.Looks.{lone_node, as_symbol, as_over}
use Rattle.rules.specs.Rules.{R2, F5, F6, F7, M1, M3, M4, M5, M6, M7, M10, M11, M12, Rule, on_eqn, on_mem, on_pair, rules}
use Rattle.rules.specs.Places.{at_r2, at_m1, at_m2, at_m3, at_m4, at_m5, at_m6, at_m7, at_m10, at_m11, at_m12}
use Rattle.rules.proofs.Answers.{look, test, answers}
use Rattle.plans.specs.declared.Plan.{Plan}
use Rattle.views.specs.declared.Shape.{Shape}
use Rattle.plans.specs.Results.{results_of}
use Rattle.rules.specs.Ranks.{at_mem, answer_at, mem_answer}
use Rattle.plans.proofs.Ranking.{◌▸◌, Apart, not-tabled}
use Rattle.plans.specs.Slots.{drop_plan}
use Rattle.plans.proofs.Planned.{planned, it-found, nothing_left, not_there}
use Rattle.membership_plans.specs.Recipes.{r2_plan, m1_plan, m3_plan, m4_plan, m11_plan, m12_plan, shared, halved, m10_plan, expr_inner, mid_of, membership_plans, membership_plan}
use Rattle.membership_plans.specs.Planned.{Is, Answered}
use Rattle.membership_plans.proofs.Plain.{Makes, r2-plans, m3-plans, m4-plans, m5-plans, m6-plans, m7-plans, m11-plans}
use Rattle.membership_plans.proofs.Reordering.{m12-plans}
use Rattle.membership_plans.proofs.Eliminating.{m1-plans, m10-plans}

-- ---- the F rules leave nothing

module _ (k : List ℕ) (s : Shape) where
  f5-drops : Makes F5 k s (λ h R. drop_plan)
  f5-drops before h R behind v = planned
      (look (lone_node h) (it-found (lone_node h)) λ a _. look (as_symbol a.0) (it-found (as_symbol a.0)) λ _ _. look (as_over R) (it-found (as_over R)) λ _ _. test _ λ _ _. answers (nothing_left k before behind))

  f6-drops : Makes F6 k s (λ h R. drop_plan)
  f6-drops before h R behind v = planned (test _ λ _ _. test _ λ _ _. answers (nothing_left k before behind))

  f7-drops : Makes F7 k s (λ h R. drop_plan)
  f7-drops before h R behind v = planned (test _ λ _ _. test _ λ _ _. answers (nothing_left k before behind))

  -- a plan for each rule of memberships among these, in their order, makes what the rule answers, where `P` holds of its place
  abbrev Plans : List Rule → (ℕ → Type 0) → (ℕ → Hedge → Expr → Plan) → Type 0
  Plans [] P plan = Unit {0}
  Plans (on_eqn rule ∷ rs) P plan = Plans rs (λ n. P (suc n)) (λ n. plan (suc n))
  Plans (on_pair rule ∷ rs) P plan = Plans rs (λ n. P (suc n)) (λ n. plan (suc n))
  Plans (on_mem rule ∷ rs) P plan = (P zero → Makes rule k s (plan zero)) × Plans rs (λ n. P (suc n)) (λ n. plan (suc n))

  made : (rs : List Rule) (P : ℕ → Type 0) (plan : ℕ → Hedge → Expr → Plan) → Plans rs P plan → (n : ℕ) → P n → Makes (λ K h R. answer_at (λ rule. at_mem rule K h R) rs n) k s (plan n)
  made [] P plan p n z = λ before h R behind v. not_there
  made (on_eqn rule ∷ rs) P plan p zero z = λ before h R behind v. not_there
  made (on_eqn rule ∷ rs) P plan p (suc n) z = made rs (λ m. P (suc m)) (λ m. plan (suc m)) p n z
  made (on_pair rule ∷ rs) P plan p zero z = λ before h R behind v. not_there
  made (on_pair rule ∷ rs) P plan p (suc n) z = made rs (λ m. P (suc m)) (λ m. plan (suc m)) p n z
  made (on_mem rule ∷ rs) P plan p zero z = p.0 z
  made (on_mem rule ∷ rs) P plan p (suc n) z = made rs (λ m. P (suc m)) (λ m. plan (suc m)) p.1 n z

-- the plan of every place but M2's makes what its rule answers; a rule that is not of memberships does not answer
plan-law : (σ : Signature) (k : List ℕ) (s : Shape) (n : ℕ) → (n ≡ at_m2 → ⊥) → Makes (mem_answer σ n) k s (membership_plan n k s)
unfolding mem_answer membership_plan
plan-law σ k s n z =
    made k s (rules σ) (λ n. n ≡ at_m2 → ⊥) (λ n. membership_plan n k s)
    ((λ _. r2-plans k s) ▸ (λ _. f5-drops k s) ▸ (λ _. f6-drops k s) ▸ (λ _. f7-drops k s)
    ▸ (λ _. m1-plans k s) ▸ (λ z. absurd (z refl)) ▸ (λ _. m3-plans k s) ▸ (λ _. m4-plans k s) ▸ (λ _. m5-plans k s) ▸ (λ _. m6-plans k s) ▸ (λ _. m7-plans k s)
    ▸ (λ _. m10-plans k s) ▸ (λ _. m11-plans σ k s) ▸ (λ _. m12-plans σ k s)
    ▸ tt) n z

-- what is the plan of its rule wherever the rule applies makes what the rule answers
answering : {n : ℕ} {k : List ℕ} {s : Shape} {p : Plan} → (n ≡ at_m2 → ⊥) → ((σ : Signature) → Is (mem_answer σ n) k s (membership_plan n k s) p) → Answered n k s p
answering {n} {k} {s} {p} z e =
    record {
      whole = e;
      results = λ σ before h R behind v. record {
        results = λ bs a.
            ap (results_of k) (e σ h R (record { before = before; behind = behind; shown = v; results = bs; answer = a })) ∙ (plan-law σ k s n z before h R behind v).results bs a;
      };
    }

-- the plan of a place is known, and the place, which is not M2's
for-rank : {n : ℕ} {k : List ℕ} {s : Shape} {p : Plan} (m : ℕ) → n ≡ m → (m ≡ at_m2 → ⊥) → ((σ : Signature) → Is (mem_answer σ m) k s (membership_plan m k s) p) → Answered n k s p
for-rank {n} {k} {s} {p} m e z d = answering (λ q. z (sym e ∙ q)) (λ σ. subst (λ (i : ℕ). Is (mem_answer σ i) k s (membership_plan i k s) p) (sym e) (d σ))

-- ---- the rule and the plan of each place

module _ {n : ℕ} {k : List ℕ} {s : Shape} {p : Plan} where
  pub for-R2 : n ≡ at_r2 → Is R2 k s (λ h R. r2_plan s) p → Answered n k s p
  unfolding mem_answer membership_plan
  for-R2 e d = for-rank at_r2 e (λ q. absurd (omega arith)) (λ _. d)

  pub for-M1 : n ≡ at_m1 → Is M1 k s (λ h R. m1_plan k s) p → Answered n k s p
  unfolding mem_answer membership_plan
  for-M1 e d = for-rank at_m1 e (λ q. absurd (omega arith)) (λ _. d)

  pub for-M3 : n ≡ at_m3 → Is M3 k s (λ h R. m3_plan s) p → Answered n k s p
  unfolding mem_answer membership_plan
  for-M3 e d = for-rank at_m3 e (λ q. absurd (omega arith)) (λ _. d)

  pub for-M4 : n ≡ at_m4 → Is M4 k s (λ h R. m4_plan k s) p → Answered n k s p
  unfolding mem_answer membership_plan
  for-M4 e d = for-rank at_m4 e (λ q. absurd (omega arith)) (λ _. d)

  pub for-M5 : n ≡ at_m5 → Is M5 k s (λ h R. shared s (expr_inner k s).from (mid_of k s R)) p → Answered n k s p
  unfolding mem_answer membership_plan
  for-M5 e d = for-rank at_m5 e (λ q. absurd (omega arith)) (λ _. d)

  pub for-M6 : n ≡ at_m6 → Is M6 k s (λ h R. halved s (expr_inner k s).from (mid_of k s R)) p → Answered n k s p
  unfolding mem_answer membership_plan
  for-M6 e d = for-rank at_m6 e (λ q. absurd (omega arith)) (λ _. d)

  pub for-M7 : n ≡ at_m7 → Is M7 k s (λ h R. halved s (expr_inner k s).from (mid_of k s R)) p → Answered n k s p
  unfolding mem_answer membership_plan
  for-M7 e d = for-rank at_m7 e (λ q. absurd (omega arith)) (λ _. d)

  pub for-M10 : n ≡ at_m10 → Is M10 k s (λ h R. m10_plan k s) p → Answered n k s p
  unfolding mem_answer membership_plan
  for-M10 e d = for-rank at_m10 e (λ q. absurd (omega arith)) (λ _. d)

  pub for-M11 : n ≡ at_m11 → ((σ : Signature) → Is (M11 σ) k s (λ h R. m11_plan k s) p) → Answered n k s p
  unfolding mem_answer membership_plan
  for-M11 e d = for-rank at_m11 e (λ q. absurd (omega arith)) d

  pub for-M12 : n ≡ at_m12 → ((σ : Signature) → Is (M12 σ) k s (λ h R. m12_plan k s h) p) → Answered n k s p
  unfolding mem_answer membership_plan
  for-M12 e d = for-rank at_m12 e (λ q. absurd (omega arith)) d

  pub dropped : (n ≡ at_m2 → ⊥) → Apart n (at_r2 ∷ at_m1 ∷ at_m3 ∷ at_m4 ∷ at_m5 ∷ at_m6 ∷ at_m7 ∷ at_m10 ∷ at_m11 ∷ at_m12 ∷ []) → p ≡ drop_plan → Answered n k s p
  unfolding membership_plan
  dropped z a e = answering z (λ _ h R _. e ∙ sym (not-tabled n (membership_plans k s h R) a))
