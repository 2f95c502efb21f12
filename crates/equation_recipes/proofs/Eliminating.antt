-- The plans of the rules that eliminate one variable make the words of their results.
use Prim.Native.Nat.{ℕ, ◌+◌, ◌-◌}
use mathlib.Core.Path.{◌≡◌, refl, ap, ◌∙◌, subst}
use mathlib.Core.Bool.{Bool, true, false}
use mathlib.Core.List.{List, [], ◌∷◌, append_assoc, append-nil}
use lib.Seq.{slice}
use Rattle.language.specs.declared.FunVar.{FunVar}
use Rattle.language.specs.Limits.{desk}
use Rattle.language.specs.Kinds.{pick}
use Rattle.language.specs.Trees.{Functor, symbol, fvar, Hedge, ε, tvar, hvar, node, eqn, Conj, eq_x}
use Rattle.language.specs.Writing.{functor_word, hedge_words, conj_words}
use Rattle.language.specs.Fine.{fine_hedge}
use Rattle.rules.specs.Substitution.{Subst, set_f, put_f, put}
use Rattle.rules.specs.Looks.{lone_t, lone_term, lone_h, lone_node, as_blank}
use Rattle.rules.specs.Rules.{elims, E1, E2, E5, E6}
use Rattle.rules.specs.Step.{place}
use Rattle.rules.proofs.Answers.{look, test, answers}
use Rattle.rules.proofs.Looks.{empty-is, lone_t-is, lone_term-is, lone_h-is, lone_node-is, as_blank-is}
use Rattle.plans.specs.declared.Recipe.{Recipe}
use Rattle.views.specs.declared.View.{View}
use Rattle.views.specs.Looks.{head, body_words}
use Rattle.views.specs.Views.{Sees}
use Rattle.plans.specs.Results.{changed, made, numbered, results_of}
use Rattle.plans.specs.Sizes.{placed_words}
use Rattle.views.proofs.Words.{words_append}
use Rattle.views.proofs.Sides.{side-whole, side-head, sees-before, sees-behind}
use Rattle.plans.proofs.Planned.{planned, one-result}
use Rattle.plans.proofs.Sides.{side-body, side-functor, side-forth}
use Rattle.plans.proofs.Replaced.{Acts, acts-term, acts-hedge, acts-functor, set_self, put-conj, put-hedge}
use Rattle.equation_recipes.specs.Recipes.{eliminated, left_inner, right_inner, e1_plan, e5_plan, e6_plan}
use Rattle.equation_recipes.proofs.Plain.{Makes}

-- ---- E1, E2, E5: the equation stays, and its variable is replaced everywhere else

module _ {k : List ℕ} {v : View} {before behind : Conj} {l r : Hedge} (w : Sees k v before l r behind) {s : Subst} {us rs : List ℕ} (a : Acts s us rs) (until cut : ℕ)
    (eu : slice v.l.from until k ≡ us) (er : slice v.r.from cut k ≡ rs) where
  eliminate-words : made k (eliminated v until cut).first cut ≡ conj_words (place before behind (elims (eqn l r ∷ []) [] s))
  unfolding numbered
  eliminate-words =
      let q : Recipe = (eliminated v until cut).first in
      let x = put-conj a k q cut eu er 0 v.at before w.fine_before (sees-before w) in
      let y = put-conj a k q cut eu er v.end v.len behind w.fine_behind (sees-behind w) in
      simp (x, y, side-whole w.left, side-whole w.right, words_append, append_assoc, append-nil)

  -- the same, for an equation of l' and r' that is that of l and r
  eliminate-plan : (l' r' : Hedge) → l ≡ l' → r ≡ r' → results_of k (eliminated v until cut) ≡ placed_words before behind (elims (eqn l' r' ∷ []) [] s ∷ [])
  eliminate-plan l' r' p q =
      one-result k before behind (eliminated v until cut).first (eliminated v until cut).first cut (elims (eqn l' r' ∷ []) [] s)
      (eliminate-words
      ∙ ap (λ (m : Hedge). conj_words (place before behind (elims (eqn m r ∷ []) [] s))) p
      ∙ ap (λ (m : Hedge). conj_words (place before behind (elims (eqn l' m ∷ []) [] s))) q)

pub e1-plans : (k : List ℕ) (v : View) → Makes E1 k v (λ l r. e1_plan k v)
e1-plans k v before behind l r w = planned
    (look (lone_t l) (lone_t-is l) λ x p. look (lone_term r) (lone_term-is r) λ t q. test _ λ _ _. test _ λ _ _. test _ λ _ _.
    answers (eliminate-plan w (acts-term x t (subst (fine_hedge desk) p w.left.fine).0) v.l.rest (v.r.to - 1)
    (side-head w.left ∙ ap (λ (h : Hedge). body_words (head h)) p) (side-body w.right ∙ ap body_words q.0) (tvar x ε) t p q.0))

pub e2-plans : (k : List ℕ) (v : View) → Makes E2 k v (λ l r. e1_plan k v)
e2-plans k v before behind l r w = planned
    (look (lone_h l) (lone_h-is l) λ x p. test _ λ _ _. test _ λ _ _. test _ λ _ _.
    answers (eliminate-plan w (acts-hedge x r (subst (fine_hedge desk) p w.left.fine).0) v.l.rest (v.r.to - 1)
    (side-head w.left ∙ ap (λ (h : Hedge). body_words (head h)) p) (side-body w.right) (hvar x ε) r p refl))

-- ---- a function variable is replaced by a functor: one word by one word

-- the words at the front of two single terms, where the left is X(H)
module _ {k : List ℕ} {v : View} {before behind : Conj} {l r : Hedge} (w : Sees k v before l r behind)
    (f : Functor) (c : Hedge) (p : l ≡ node f c ε) (X : FunVar) (d : f ≡ fvar X) (g : Functor) (e : Hedge) (q : r ≡ node g e ε) where
  left-blank : l ≡ node (fvar X) c ε
  left-blank = p ∙ ap (λ (f : Functor). node f c ε) d

  old-word : slice v.l.from (left_inner k v).from k ≡ (4000 + X.0) ∷ []
  old-word = ap (λ n. slice v.l.from n k) (side-forth w.left) ∙ side-functor (fvar X) c w.left left-blank

  new_word : slice v.r.from (right_inner k v).from k ≡ functor_word g ∷ []
  new_word = ap (λ n. slice v.r.from n k) (side-forth w.right) ∙ side-functor g e w.right q

  blank-acts : Acts (set_f X g) ((4000 + X.0) ∷ []) (functor_word g ∷ [])
  blank-acts = acts-functor X g (subst (fine_hedge desk) left-blank w.left.fine).0

pub e5-plans : (k : List ℕ) (v : View) → Makes E5 k v (λ l r. e5_plan k v)
e5-plans k v before behind l r w = planned
    (look (lone_node l) (lone_node-is l) λ a p. look (as_blank a.0) (as_blank-is a.0) λ X d. look (lone_node r) (lone_node-is r) λ b q.
    test _ λ _ c. test _ λ _ e. test _ λ _ _. test _ λ _ _. test _ λ _ _.
    answers (eliminate-plan w (blank-acts w a.0 a.1 p X d b.0 b.1 q) (left_inner k v).from (right_inner k v).from
    (old-word w a.0 a.1 p X d b.0 b.1 q) (new_word w a.0 a.1 p X d b.0 b.1 q)
    (node (fvar X) ε ε) (node b.0 ε ε)
    (left-blank w a.0 a.1 p X d b.0 b.1 q ∙ ap (λ (h : Hedge). node (fvar X) h ε) (empty-is a.1 c))
    (q ∙ ap (λ (h : Hedge). node b.0 h ε) (empty-is b.1 e))))

set-kept : (X : FunVar) (F : Functor) → put_f (set_f X F) F ≡ F
set-kept X (symbol f) = refl
set-kept X (fvar Y) = go (eq_x X Y)
  where
    go : (b : Bool) → pick b (fvar Y) (fvar Y) ≡ fvar Y
    go true = refl
    go false = refl

e6-words : {k : List ℕ} {v : View} {before behind : Conj} {l r : Hedge} (w : Sees k v before l r behind) (X : FunVar) (F : Functor) (c e : Hedge)
    → l ≡ node (fvar X) c ε → r ≡ node F e ε → Acts (set_f X F) ((4000 + X.0) ∷ []) (functor_word F ∷ [])
    → slice v.l.from (left_inner k v).from k ≡ (4000 + X.0) ∷ [] → slice v.r.from (right_inner k v).from k ≡ functor_word F ∷ []
    → made k (e6_plan k v).first (right_inner k v).from
    ≡ conj_words (place before behind (elims (eqn (node (fvar X) ε ε) (node F ε ε) ∷ []) (eqn (node F c ε) (node F e ε) ∷ []) (set_f X F)))
unfolding numbered
e6-words {k} {v} {before} {behind} {l} {r} w X F c e p q a eu er =
    let n : Recipe = (e6_plan k v).first in
    let cut = (right_inner k v).from in
    let x = put-conj a k n cut eu er 0 v.at before w.fine_before (sees-before w) in
    let y = put-conj a k n cut eu er v.end v.len behind w.fine_behind (sees-behind w) in
    let z : changed k n cut (slice v.l.from v.l.to k) ≡ hedge_words (node F (put (set_f X F) c) ε) =
    put-hedge a k n cut eu er v.l.from v.l.to (node (fvar X) c ε) (subst (fine_hedge desk) p w.left.fine) (side-whole w.left ∙ ap hedge_words p)
    ∙ ap (λ (G : Functor). hedge_words (node G (put (set_f X F) c) ε)) (set_self X F) in
    let u : changed k n cut (slice v.r.from v.r.to k) ≡ hedge_words (node F (put (set_f X F) e) ε) =
    put-hedge a k n cut eu er v.r.from v.r.to (node F e ε) (subst (fine_hedge desk) q w.right.fine) (side-whole w.right ∙ ap hedge_words q)
    ∙ ap (λ (G : Functor). hedge_words (node G (put (set_f X F) e) ε)) (set-kept X F) in
    simp (x, y, z, u, eu, er, set-kept X F, words_append, append_assoc, append-nil)

pub e6-plans : (k : List ℕ) (v : View) → Makes E6 k v (λ l r. e6_plan k v)
e6-plans k v before behind l r w = planned
    (look (lone_node l) (lone_node-is l) λ a p. look (as_blank a.0) (as_blank-is a.0) λ X d. look (lone_node r) (lone_node-is r) λ b q.
    test _ λ _ _. test _ λ _ _.
    answers (one-result k before behind (e6_plan k v).first (e6_plan k v).first (right_inner k v).from
    (elims (eqn (node (fvar X) ε ε) (node b.0 ε ε) ∷ []) (eqn (node b.0 a.1 ε) (node b.0 b.1 ε) ∷ []) (set_f X b.0))
    (e6-words w X b.0 a.1 b.1 (left-blank w a.0 a.1 p X d b.0 b.1 q) q (blank-acts w a.0 a.1 p X d b.0 b.1 q)
    (old-word w a.0 a.1 p X d b.0 b.1 q) (new_word w a.0 a.1 p X d b.0 b.1 q))))
