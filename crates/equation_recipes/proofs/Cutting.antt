-- The plans of E3 and E4, one result for each cut, and of Del3.
use Prim.Native.Nat.{ℕ, suc, ◌+◌, ◌<◌}
use Rattle.std.specs.Prelude.{Option, Some, None}
use native.Mathlib.Omega.{arith}
use mathlib.Core.Path.{◌≡◌, sym, ap, ◌∙◌, subst}
use mathlib.Core.Bool.{Bool}
use mathlib.Core.List.{List, [], ◌∷◌, append_assoc, append-nil, map, map-map}
use mathlib.Core.Option.{some}
use lib.ListN.{length, length-drop, length-append}
use Rattle.language.specs.declared.HedgeVar.{HedgeVar}
use Rattle.language.specs.Limits.{desk}
use Rattle.language.specs.Trees.{Hedge, ε, hvar, eqn, Conj, ◌⧺◌}
use Rattle.language.specs.Writing.{hedge_words, conj_words}
use Rattle.language.specs.Fine.{fine_hedge}
use Rattle.rules.specs.Looks.{empty, first_run, lone_h, all_terms, up_to, inside, cuts}
use Rattle.rules.specs.Rules.{plain, cut_result, Del3, E3, E4}
use Rattle.rules.specs.Step.{place}
use Rattle.rules.proofs.Tests.{test-true}
use Rattle.rules.proofs.Answers.{look, test, answers}
use Rattle.rules.proofs.Looks.{first_run-is, lone_h-is}
use Rattle.plans.specs.declared.Recipe.{Recipe}
use Rattle.views.specs.declared.View.{View}
use Rattle.views.specs.declared.Look.TheVariants.{Run}
use Rattle.views.specs.Looks.{head, tail, body_words, look_of}
use Rattle.views.specs.Views.{Sided, Sees}
use Rattle.plans.specs.Results.{made, numbered, results_of}
use Rattle.plans.specs.declared.Plan.{Plan}
use Rattle.plans.specs.Sizes.{placed_words}
use Rattle.finds.specs.declared.Terms.{Terms}
use Rattle.views.specs.Standing.{Stands}
use Rattle.finds.specs.Walks.{size, Counted, size_before, Ahead, place_from, Spotted}
use Rattle.views.proofs.Words.{words-body, words-join, words_append, join-nil}
use Rattle.views.proofs.Sides.{side-stands, side-head, side-tail, sees-before, sees-behind}
use Rattle.plans.proofs.Places.{forth-within}
use Rattle.equation_recipes.proofs.Cuts.{Cut, side-cuts}
use Rattle.equation_recipes.proofs.Joins.{up_to-whole, inside-whole, inside-before, inside-behind}
use Rattle.plans.proofs.Planned.{answered, planned, it-found, one-result}
use Rattle.plans.proofs.Replaced.{acts-hedge, put-conj, put-hedge}
use Rattle.equation_recipes.specs.Recipes.{cut_plan, e3_plan, e4_plan, del3_plan, ahead, terms_ahead, hedge_ahead, spot_of}
use Rattle.equation_recipes.specs.Planned.{Is}
use Rattle.equation_recipes.proofs.Plain.{Makes}

-- ---- p = T1, H = (T2, rest) for a cut

abbrev pub cut_recipe : View → Recipe
cut_recipe v = (cut_plan v 0).first

module _ {k : List ℕ} {v : View} {before behind : Conj} {l r : Hedge} (w : Sees k v before l r behind) (p : HedgeVar) (h rest : Hedge) (e : l ≡ hvar p h) where
  cut-words : (i : ℕ) (c : Hedge × Hedge) → Cut k v.r.from v.r.to rest i c → made k (cut_recipe v) i ≡ conj_words (place before behind (cut_result p h rest c))
  unfolding numbered
  cut-words i c t =
      let fine = subst (fine_hedge desk) e w.left.fine in
      let a = acts-hedge p c.0 fine.0 in
      let eu = side-head w.left ∙ ap (λ (h : Hedge). body_words (head h)) e in
      let x = put-conj a k (cut_recipe v) i eu t.before 0 v.at before w.fine_before (sees-before w) in
      let y = put-conj a k (cut_recipe v) i eu t.before v.end v.len behind w.fine_behind (sees-behind w) in
      let z = put-hedge a k (cut_recipe v) i eu t.before v.l.rest v.l.to h fine.1 (side-tail w.left ∙ ap (λ (h : Hedge). hedge_words (tail h)) e) in
      let u = put-hedge a k (cut_recipe v) i eu t.before i v.r.to (c.1 ⧺ rest) t.fine_behind t.behind in
      simp (x, y, z, u, eu, t.before, words_append, words-body c.0, append_assoc, append-nil)

  cut-results : (T : Hedge) → r ≡ T ⧺ rest → results_of k (cut_plan v (suc (size T))) ≡ placed_words before behind (map (cut_result p h rest) (cuts T))
  unfolding results_of placed_words
  cut-results T d =
      side-cuts w.right T rest d (made k (cut_recipe v)) (λ c. conj_words (place before behind (cut_result p h rest c))) cut-words
      ∙ sym (map-map (λ b. conj_words (place before behind b)) (cut_result p h rest) (cuts T))

-- ---- E3

pub e3-plans : (k : List ℕ) (v : View) → Makes E3 k v (λ l r. e3_plan v r)
e3-plans k v before behind l r w = planned
    (look (first_run l) (first_run-is l) λ a p. test _ λ _ _. test _ λ _ _. test _ λ _ _. answers (cut-results w a.0 a.1 ε p r (sym (join-nil r))))

-- the terms that are counted are those of the side
pub e3-is : (k : List ℕ) (v : View) (t : Terms) → ((h : Hedge) (beyond : List ℕ) → Stands k v.r.from h beyond → Counted t h) → Is E3 k v (λ l r. e3_plan v r) (cut_plan v (t.count + 1))
e3-is k v t count l r a = answered (λ _. cut_plan v (t.count + 1) ≡ e3_plan v r)
    (look (first_run l) (first_run-is l) λ _ _. test _ λ _ _. test _ λ _ all. test _ λ _ _.
    answers
    (let m = count r _ (side-stands a.seen.right) in
    let q = m.count (m.all ∙ (test-true (all_terms r)).0 all) in
    let n : t.count + 1 ≡ suc (size r) = omega arith in ap (cut_plan v) n))
    a.results a.answer

-- what is looked for along the right side is the hedge variable that the left one begins with
told : (k : List ℕ) (v : View) (P : HedgeVar → Hedge → Type 0) {q : HedgeVar} {b : Bool} → v.l.look ≡ Run q b
    → ((h : Hedge) (beyond : List ℕ) → q.0 < desk.each → Stands k v.r.from h beyond → P q h) → (p : HedgeVar) (H h : Hedge) → Sided k v.l (hvar p H) → Sided k v.r h → P p h
told k v P {q} {b} begins found p H h x y =
    let z : Run q b ≡ Run p (empty H) = sym begins ∙ x.look in
    let e : q ≡ p = cc in
    subst (λ q. P q h) e (found h _ (subst (λ (q : HedgeVar). q.0 < desk.each) (sym e) x.fine.0) (side-stands y))

-- ---- E4

-- what is found in a side that begins with p
terms-ahead : (p : HedgeVar) {h l : Hedge} (r : Hedge) {b : Hedge × Hedge} → l ≡ hvar p h → up_to p r ≡ some b → terms_ahead l r ≡ b.0
terms-ahead p r e f = ap (λ (m : Hedge). terms_ahead m r) e ∙ ap ahead f

pub e4-plans : (k : List ℕ) (v : View) → Makes E4 k v (e4_plan v)
e4-plans k v before behind l r w = planned
    (look (first_run l) (first_run-is l) λ a p. test _ λ _ _. look (up_to a.0 r) (it-found (up_to a.0 r)) λ b f.
    answers
    (ap (λ (T : Hedge). results_of k (cut_plan v (suc (size T)))) (terms-ahead a.0 r p f)
    ∙ cut-results w a.0 a.1 b.1 p b.0 (up_to-whole a.0 r b.0 b.1 f)))

module _ (k : List ℕ) (v : View) {q : HedgeVar} {b : Bool} {t : Option ℕ} (begins : v.l.look ≡ Run q b)
    (found : (h : Hedge) (beyond : List ℕ) → q.0 < desk.each → Stands k v.r.from h beyond → Ahead q t h) where
  pub e4-is : {n : ℕ} → t ≡ Some n → Is E4 k v (e4_plan v) (cut_plan v (n + 1))
  e4-is {n} y l r a = answered (λ _. cut_plan v (n + 1) ≡ e4_plan v l r)
      (look (first_run l) (first_run-is l) λ b p. test _ λ _ _. look (up_to b.0 r) (it-found (up_to b.0 r)) λ c f.
      answers
      (let q : Some n ≡ Some (size c.0) = sym y ∙ (told k v (λ q h. Ahead q t h) begins found b.0 b.1 r (subst (Sided k v.l) p a.seen.left) a.seen.right).is ∙ ap size_before f in
      let d : n ≡ size c.0 = cc in
      let s = ap size (terms-ahead b.0 r p f) in
      let m : n + 1 ≡ suc (size (terms_ahead l r)) = omega arith in ap (cut_plan v) m))
      a.results a.answer

  -- there is such a term where the rule applies
  pub e4-finds : {plan : Plan} → t ≡ None → Is E4 k v (e4_plan v) plan
  e4-finds {plan} y l r a = answered (λ _. plan ≡ e4_plan v l r)
      (look (first_run l) (first_run-is l) λ b p. test _ λ _ _. look (up_to b.0 r) (it-found (up_to b.0 r)) λ c f.
      answers
      (let q : None ≡ Some (size c.0) = sym y ∙ (told k v (λ q h. Ahead q t h) begins found b.0 b.1 r (subst (Sided k v.l) p a.seen.left) a.seen.right).is ∙ ap size_before f in
      absurd (let z : ◌≡◌ {A = ℕ} 0 1 = cc in omega arith)))
      a.results a.answer

-- the left side begins with a hedge variable where the rule applies
pub e4-begins : (k : List ℕ) (v : View) {plan : Plan} → ((p : HedgeVar) (b : Bool) → v.l.look ≡ Run p b → ⊥) → Is E4 k v (e4_plan v) plan
e4-begins k v {plan} n l r a = answered (λ _. plan ≡ e4_plan v l r)
    (look (first_run l) (first_run-is l) λ b p. test _ λ _ _. look (up_to b.0 r) (it-found (up_to b.0 r)) λ _ _.
    answers (absurd (n b.0 (empty b.1) (a.seen.left.look ∙ ap look_of p))))
    a.results a.answer

-- ---- Del3

hedge-ahead : (p : HedgeVar) {h l : Hedge} (r : Hedge) {b : Hedge × Hedge} → l ≡ hvar p h → inside p r ≡ some b → hedge_ahead l r ≡ b.0
hedge-ahead p r e f = ap (λ (m : Hedge). hedge_ahead m r) e ∙ ap ahead f

-- p stands within the words
spot-below : {k : List ℕ} {h : Hedge} (v : View) (s : Sided k v.r h) (p : HedgeVar) (a b : Hedge) → inside p h ≡ some (a, b) → (i : ℕ) → i ≡ v.r.from + length (body_words a) → i < length k
spot-below {k} {h} v s p a b e i q =
    let m = ap length (ap hedge_words (inside-whole p h a b e) ∙ words-join a (hvar p b)) ∙ length-append (body_words a) ((2000 + p.0) ∷ hedge_words b) in
    omega (arith, ap length s.here, length-drop v.r.from k, length-append (hedge_words h) s.beyond)

pub del3-plans : (k : List ℕ) (v : View) → Makes Del3 k v (λ l r. del3_plan k v (spot_of v l r))
unfolding numbered
del3-plans k v before behind l r w = planned
    (look (lone_h l) (lone_h-is l) λ p q. look (inside p r) (it-found (inside p r)) λ a f.
    answers
    (let i : spot_of v l r ≡ v.r.from + length (body_words a.0) = ap (λ (h : Hedge). v.r.from + length (body_words h)) (hedge-ahead p r q f) in
    let x = inside-before p (side-stands w.right) w.right.to f i in
    let y = inside-behind p (side-stands w.right) w.right.to f i in
    let n = forth-within (length k) (spot_of v l r) (spot-below v w.right p a.0 a.1 f (spot_of v l r) i) in
    one-result k before behind (del3_plan k v (spot_of v l r)).first (del3_plan k v (spot_of v l r)).first 0 (plain (eqn a.0 ε ∷ eqn a.1 ε ∷ []))
    (simp (n, x, y, sees-before w, sees-behind w, words_append, words-body a.0, append_assoc, append-nil))))

module _ (k : List ℕ) (v : View) {q : HedgeVar} {b : Bool} {t : Option ℕ} (begins : v.l.look ≡ Run q b)
    (found : (h : Hedge) (beyond : List ℕ) → q.0 < desk.each → Stands k v.r.from h beyond → Spotted q v.r.from t h) where
  pub del3-is : {i : ℕ} → t ≡ Some i → Is Del3 k v (λ l r. del3_plan k v (spot_of v l r)) (del3_plan k v i)
  del3-is {i} y l r a = answered (λ _. del3_plan k v i ≡ del3_plan k v (spot_of v l r))
      (look (lone_h l) (lone_h-is l) λ p e. look (inside p r) (it-found (inside p r)) λ b f.
      answers
      (let s : Some i ≡ Some (v.r.from + length (body_words b.0)) = sym y ∙ (told k v (λ q h. Spotted q v.r.from t h) begins found p ε r (subst (Sided k v.l) e a.seen.left) a.seen.right).is ∙ ap (place_from v.r.from) f in
      let d : i ≡ v.r.from + length (body_words b.0) = cc in
      ap (del3_plan k v) (d ∙ ap (λ (h : Hedge). v.r.from + length (body_words h)) (sym (hedge-ahead p r e f)))))
      a.results a.answer

  -- p stands there where the rule applies
  pub del3-finds : {plan : Plan} → t ≡ None → Is Del3 k v (λ l r. del3_plan k v (spot_of v l r)) plan
  del3-finds {plan} y l r a = answered (λ _. plan ≡ del3_plan k v (spot_of v l r))
      (look (lone_h l) (lone_h-is l) λ p e. look (inside p r) (it-found (inside p r)) λ b f.
      answers
      (let s : None ≡ Some (v.r.from + length (body_words b.0)) = sym y ∙ (told k v (λ q h. Spotted q v.r.from t h) begins found p ε r (subst (Sided k v.l) e a.seen.left) a.seen.right).is ∙ ap (place_from v.r.from) f in
      absurd (let z : ◌≡◌ {A = ℕ} 0 1 = cc in omega arith)))
      a.results a.answer

-- the left side begins with a hedge variable where the rule applies
pub del3-begins : (k : List ℕ) (v : View) {plan : Plan} → ((p : HedgeVar) (b : Bool) → v.l.look ≡ Run p b → ⊥) → Is Del3 k v (λ l r. del3_plan k v (spot_of v l r)) plan
del3-begins k v {plan} n l r a = answered (λ _. plan ≡ del3_plan k v (spot_of v l r))
    (look (lone_h l) (lone_h-is l) λ p e. look (inside p r) (it-found (inside p r)) λ _ _.
    answers (absurd (n p (empty ε) (a.seen.left.look ∙ ap look_of e))))
    a.results a.answer
