-- The plans of the rules that replace nothing make the words of their results.
use Prim.Native.Nat.{ℕ, ◌-◌}
use mathlib.Core.Path.{◌≡◌, refl, sym, ap, subst, ◌∙◌}
use mathlib.Core.List.{List, [], ◌∷◌, ◌++◌, append_assoc, append-nil}
use lib.Seq.{slice}
use Rattle.language.specs.Limits.{desk}
use Rattle.language.specs.declared.Signature.{Signature}
use Rattle.language.specs.Trees.{Hedge, ε, Expr, cat, alt, eqn, mem, Conj}
use Rattle.language.specs.Writing.{hedge_words, expr_words, conj_words}
use Rattle.language.specs.Fine.{fine_expr}
use Rattle.rules.specs.Looks.{first_run, lone_term, lone_node, as_symbol, as_cat, as_alt, as_star, as_over}
use Rattle.rules.specs.Rules.{Branch, plain, InRule, R2, M3, M4, M5, M6, M7, M11}
use Rattle.rules.specs.Step.{place}
use Rattle.rules.proofs.Answers.{look, test, answers}
use Rattle.rules.proofs.Looks.{first_run-is, lone_term-is, lone_node-is, as_symbol-is, as_cat-is, as_alt-is, as_star-is, as_over-is}
use Rattle.plans.specs.declared.Recipe.{Recipe}
use Rattle.plans.specs.declared.Ways.TheVariants.{Two}
use Rattle.plans.specs.declared.Plan.{Plan}
use Rattle.views.specs.declared.Shape.{Shape}
use Rattle.views.specs.Looks.{head, tail}
use Rattle.views.specs.Views.{Shows}
use Rattle.plans.specs.Results.{made, numbered, results_of}
use Rattle.plans.specs.Sizes.{placed_words}
use Rattle.plans.specs.Slots.{plan_of}
use Rattle.views.proofs.Words.{words_append, words-body}
use Rattle.views.proofs.Sides.{side-whole, side-head, side-tail, shows-before, shows-behind, shows-expr}
use Rattle.plans.specs.Planned.{Planned}
use Rattle.plans.proofs.Planned.{answered, planned, one-result}
use Rattle.plans.proofs.Sides.{side-forth, side-children}
use Rattle.expressions.specs.declared.Part.{Part}
use Rattle.expressions.specs.Standing.{Parted}
use Rattle.membership_plans.specs.Recipes.{r2_plan, m3_first, m3_second, m3_plan, member_in, m4_plan, m11_plan, m5_first, m5_second, shared, halved, hedge_inner, expr_inner, mid_of}
use Rattle.membership_plans.specs.Planned.{Applies, Is}
use Rattle.membership_plans.proofs.Parts.{inner-part, first-here, first_part, second-part}

-- at every membership that the shape shows, the plan makes what the rule answers
abbrev pub Makes : InRule → List ℕ → Shape → (Hedge → Expr → Plan) → Type 0
Makes rule k s plan = (before : Conj) (h : Hedge) (R : Expr) (behind : Conj) → Shows k s before h R behind → Planned k (plan h R) before behind (rule (before ++ behind) h R)

-- two results
two-results : (k : List ℕ) (before behind : Conj) (r q : Recipe) (b c : Branch)
    → made k r 0 ≡ conj_words (place before behind b) → made k q 0 ≡ conj_words (place before behind c) → results_of k (plan_of Two r q) ≡ placed_words before behind (b ∷ c ∷ [])
unfolding results_of placed_words
two-results k before behind r q b c e d = rw (e, d)

-- a plan of two recipes that are known
pub by_two : {a b c d : Recipe} → a ≡ c → b ≡ d → plan_of Two a b ≡ plan_of Two c d
by_two {b = b} {c = c} e f = ap (λ (r : Recipe). plan_of Two r b) e ∙ ap (plan_of Two c) f

-- a membership in the place of the old one
in_words : {k : List ℕ} {s : Shape} {before : Conj} {h : Hedge} {R : Expr} {behind : Conj} (v : Shows k s before h R behind) (from to start end : ℕ) (g : Hedge) (S : Expr)
    → slice from to k ≡ hedge_words g → slice start end k ≡ expr_words S
    → made k (member_in s from to start end) 0 ≡ conj_words (place before behind (plain (mem g S ∷ [])))
unfolding numbered
in_words v from to start end g S p q = simp (shows-before v, shows-behind v, p, q, words_append, append_assoc, append-nil)

pub r2-plans : (k : List ℕ) (s : Shape) → Makes R2 k s (λ h R. r2_plan s)
unfolding numbered
r2-plans k s before h R behind v = planned
    (test _ λ _ _. test _ λ _ _.
    answers (one-result k before behind (r2_plan s).first (r2_plan s).first 0 (plain []) (simp (shows-before v, shows-behind v, words_append, append-nil))))

-- ---- M3

m3-first : {k : List ℕ} {s : Shape} {before : Conj} {h : Hedge} {R : Expr} {behind : Conj} (v : Shows k s before h R behind)
    → made k (m3_first s) 0 ≡ conj_words (place before behind (plain (mem (head h) R ∷ eqn (tail h) ε ∷ [])))
unfolding numbered
m3-first {h = h} v =
    simp (shows-before v, shows-behind v, shows-expr v, side-head v.hedge, side-tail v.hedge, words_append, words-body (head h), append_assoc, append-nil)

m3-second : {k : List ℕ} {s : Shape} {before : Conj} {h : Hedge} {R : Expr} {behind : Conj} (v : Shows k s before h R behind)
    → made k (m3_second s) 0 ≡ conj_words (place before behind (plain (eqn (head h) ε ∷ mem (tail h) R ∷ [])))
unfolding numbered
m3-second {h = h} v =
    simp (shows-before v, shows-behind v, shows-expr v, side-head v.hedge, side-tail v.hedge, words_append, words-body (head h), append_assoc, append-nil)

pub m3-plans : (k : List ℕ) (s : Shape) → Makes M3 k s (λ h R. m3_plan s)
m3-plans k s before h R behind v = planned
    (look (first_run h) (first_run-is h) λ a p. test _ λ _ _. look (as_over R) (as_over-is R) λ g q.
    answers (two-results k before behind (m3_first s) (m3_second s) _ _
    (m3-first v ∙ ap (λ (g : Hedge). conj_words (place before behind (plain (mem (head g) R ∷ eqn (tail g) ε ∷ [])))) p)
    (m3-second v ∙ ap (λ (g : Hedge). conj_words (place before behind (plain (eqn (head g) ε ∷ mem (tail g) R ∷ [])))) p)))

-- ---- M4, M11: the hedge, or its children, in what the expression holds

pub m4-plans : (k : List ℕ) (s : Shape) → Makes M4 k s (λ h R. m4_plan k s)
m4-plans k s before h R behind v = planned
    (look (lone_term h) (lone_term-is h) λ t p. look (as_star R) (as_star-is R) λ S q.
    answers (one-result k before behind (m4_plan k s).first (m4_plan k s).first 0 (plain (mem t S ∷ []))
    (in_words v s.h.from s.h.to (expr_inner k s).from s.end t S (side-whole v.hedge ∙ ap hedge_words p.0) (inner-part v (ap expr_words q)))))

pub m11-plans : (σ : Signature) (k : List ℕ) (s : Shape) → Makes (M11 σ) k s (λ h R. m11_plan k s)
m11-plans σ k s before h R behind v = planned
    (look (lone_node h) (lone_node-is h) λ a p. look (as_symbol a.0) (as_symbol-is a.0) λ _ _. look (as_over R) (as_over-is R) λ g q. test _ λ _ _. test _ λ _ _.
    answers (one-result k before behind (m11_plan k s).first (m11_plan k s).first 0 (plain (mem a.1 g.1 ∷ []))
    (in_words v (hedge_inner k s).from (hedge_inner k s).to (expr_inner k s).from s.end a.1 g.1
    (ap (λ i. slice i (s.h.to - 1) k) (side-forth v.hedge) ∙ side-children a.0 a.1 v.hedge p)
    (inner-part v (ap expr_words q)))))

-- ---- M5, M6, M7: the two parts

module _ {k : List ℕ} {s : Shape} {before : Conj} {h : Hedge} {R : Expr} {behind : Conj} (v : Shows k s before h R behind) (j mid : ℕ) (a b : Expr)
    (p : slice j mid k ≡ expr_words a) (q : slice mid s.end k ≡ expr_words b) where
  m5-first : made k (m5_first s j mid) 0 ≡ conj_words (place before behind (plain (mem h a ∷ mem ε b ∷ [])))
  unfolding numbered
  m5-first = simp (shows-before v, shows-behind v, side-whole v.hedge, p, q, words_append, append_assoc, append-nil)

  m5-second : made k (m5_second s j mid) 0 ≡ conj_words (place before behind (plain (mem ε a ∷ mem h b ∷ [])))
  unfolding numbered
  m5-second = simp (shows-before v, shows-behind v, side-whole v.hedge, p, q, words_append, append_assoc, append-nil)

pub m5-plans : (k : List ℕ) (s : Shape) → Makes M5 k s (λ h R. shared s (expr_inner k s).from (mid_of k s R))
m5-plans k s before h R behind v = planned
    (look (lone_term h) (lone_term-is h) λ t e. look (as_cat R) (as_cat-is R) λ S d.
    let fine = subst (fine_expr desk) d v.fine in
    let j = (expr_inner k s).from in
    let mid = mid_of k s (cat S.0 S.1) in
    let x = first_part v (ap expr_words d) S.0 S.1 refl fine.0 in
    let y = second-part v (ap expr_words d) S.0 S.1 refl fine.0 in
    answers (ap (λ (E : Expr). results_of k (shared s (expr_inner k s).from (mid_of k s E))) d
    ∙ two-results k before behind (m5_first s j mid) (m5_second s j mid) _ _
    (m5-first v j mid S.0 S.1 x y ∙ ap (λ (g : Hedge). conj_words (place before behind (plain (mem g S.0 ∷ mem ε S.1 ∷ [])))) e.0)
    (m5-second v j mid S.0 S.1 x y ∙ ap (λ (g : Hedge). conj_words (place before behind (plain (mem ε S.0 ∷ mem g S.1 ∷ [])))) e.0)))

halved-results : {k : List ℕ} {s : Shape} {before : Conj} {h : Hedge} {R : Expr} {behind : Conj} (v : Shows k s before h R behind) (S : Expr × Expr) → R ≡ alt S.0 S.1 → (t : Hedge) → h ≡ t
    → results_of k (halved s (expr_inner k s).from (mid_of k s R)) ≡ placed_words before behind (plain (mem t S.0 ∷ []) ∷ plain (mem t S.1 ∷ []) ∷ [])
halved-results {k} {s} {before} {h} {R} {behind} v S d t e =
    let fine = subst (fine_expr desk) d v.fine in
    let w = side-whole v.hedge ∙ ap hedge_words e in
    let j = (expr_inner k s).from in
    let mid = mid_of k s (alt S.0 S.1) in
    ap (λ (E : Expr). results_of k (halved s (expr_inner k s).from (mid_of k s E))) d
    ∙ two-results k before behind (halved s j mid).first (halved s j mid).second _ _
    (in_words v _ _ _ _ t S.0 w (first_part v (ap expr_words d) S.0 S.1 refl fine.0))
    (in_words v _ _ _ _ t S.1 w (second-part v (ap expr_words d) S.0 S.1 refl fine.0))

module _ (k : List ℕ) (s : Shape) where
  pub m6-plans : Makes M6 k s (λ h R. halved s (expr_inner k s).from (mid_of k s R))
  m6-plans before h R behind v = planned (look (lone_term h) (lone_term-is h) λ t e. look (as_alt R) (as_alt-is R) λ S d. answers (halved-results v S d t e.0))

  pub m7-plans : Makes M7 k s (λ h R. halved s (expr_inner k s).from (mid_of k s R))
  m7-plans before h R behind v = planned (look (first_run h) (first_run-is h) λ _ _. look (as_alt R) (as_alt-is R) λ S d. answers (halved-results v S d h refl))

-- the first part ends where it was passed
module _ {k : List ℕ} {s : Shape} {p : Part} (q : Parted k (expr_inner k s).from p) (plan : ℕ → Plan) where
  pub m5-is : Is M5 k s (λ h R. plan (mid_of k s R)) (plan p.end)
  m5-is h R a = answered (λ _. plan p.end ≡ plan (mid_of k s R))
      (look (lone_term h) (lone_term-is h) λ _ _. look (as_cat R) (as_cat-is R) λ S d. answers (ap plan
      ((q.each S.0 _ (first-here a.shown (ap expr_words d) S.0 S.1 refl (subst (fine_expr desk) d a.shown.fine).0)).end ∙ sym (ap (mid_of k s) d))))
      a.results a.answer

  alt-ends : {h : Hedge} {R : Expr} {rule : InRule} → Applies rule k s h R → (S : Expr × Expr) → R ≡ alt S.0 S.1 → plan p.end ≡ plan (mid_of k s R)
  alt-ends a S d = ap plan
      ((q.each S.0 _ (first-here a.shown (ap expr_words d) S.0 S.1 refl (subst (fine_expr desk) d a.shown.fine).0)).end ∙ sym (ap (mid_of k s) d))

  pub m6-is : Is M6 k s (λ h R. plan (mid_of k s R)) (plan p.end)
  m6-is h R a = answered (λ _. plan p.end ≡ plan (mid_of k s R)) (look (lone_term h) (lone_term-is h) λ _ _. look (as_alt R) (as_alt-is R) λ S d. answers (alt-ends a S d)) a.results a.answer

  pub m7-is : Is M7 k s (λ h R. plan (mid_of k s R)) (plan p.end)
  m7-is h R a = answered (λ _. plan p.end ≡ plan (mid_of k s R)) (look (first_run h) (first_run-is h) λ _ _. look (as_alt R) (as_alt-is R) λ S d. answers (alt-ends a S d)) a.results a.answer
