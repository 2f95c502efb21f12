-- The plans of the rules of unordered symbols: Del2, D1 and E7.
use Prim.Native.Nat.{ℕ, ◌+◌, ◌-◌}
use native.Mathlib.Omega.{arith}
use mathlib.Core.Path.{◌≡◌, refl, sym, ap, ◌∙◌, subst}
use mathlib.Core.Bool.{true}
use mathlib.Core.List.{List, [], ◌∷◌, ◌++◌, append_assoc, append-nil, map, map-map}
use lib.Dec.{eqb}
use borrow.Author.Tests.{eqb-true}
use lib.ListN.{length, get_or, length-append}
use lib.Seq.{slice}
use Rattle.language.specs.declared.FunVar.{FunVar}
use Rattle.language.specs.declared.Sym.{Sym}
use Rattle.language.specs.declared.Signature.{Signature}
use Rattle.language.specs.Limits.{desk}
use Rattle.language.specs.Kinds.{pick}
use Rattle.language.specs.Trees.{Functor, symbol, fvar, Hedge, ε, node, eqn, Conj, ◌⧺◌, eq_x}
use Rattle.language.specs.Writing.{functor_word, hedge_words, conj_words}
use Rattle.language.specs.Fine.{fine_hedge}
use Rattle.meaning.specs.Values.{numbers}
use Rattle.rules.specs.Substitution.{set_f, put}
use Rattle.rules.specs.Elements.{struck, orders, width}
use Rattle.rules.specs.Looks.{lone_node, as_symbol, as_blank, all_terms}
use Rattle.rules.specs.Rules.{plain, order_result, named_result, Del2, D1, E7}
use Rattle.rules.specs.Step.{place}
use Rattle.rules.proofs.Tests.{test-true}
use Rattle.rules.proofs.Answers.{look, test, answers}
use Rattle.rules.proofs.Looks.{lone_node-is, as_symbol-is, as_blank-is}
use Rattle.words.proofs.Parts.{part_of, word-of}
use Rattle.views.specs.declared.Side.{Side}
use Rattle.views.specs.declared.View.{View}
use Rattle.views.specs.Looks.{body_words}
use Rattle.views.specs.Views.{Sided, Sees}
use Rattle.views.specs.Standing.{Stands}
use Rattle.views.proofs.Words.{words-join, words_append}
use Rattle.views.proofs.Sides.{side-whole, sees-before, sees-behind}
use Rattle.finds.specs.declared.Terms.{Terms}
use Rattle.finds.specs.Walks.{Counted}
use Rattle.finds.proofs.Widths.{size-width}
use Rattle.sharing.specs.declared.Spots.{Spots}
use Rattle.sharing.proofs.Shared.{CutOut, shares, cut-behind}
use Rattle.orders.specs.Orders.{ordered, renamed}
use Rattle.plans.specs.Results.{numbered, results_of}
use Rattle.plans.specs.Sizes.{placed_words}
use Rattle.plans.specs.Slots.{children_of}
use Rattle.plans.proofs.Planned.{answered, planned, it-found, one-result}
use Rattle.plans.proofs.Replaced.{set_self, name-conj, name-hedge, name-self}
use Rattle.plans.proofs.Sides.{side-functor, side-children, side-forth, inner-stands}
use Rattle.plans.proofs.InOrder.{each-order}
use Rattle.equation_recipes.specs.Recipes.{left_inner, right_inner, struck_out, struck_where, del2_plan, reordered, d1_plan, e7_plan}
use Rattle.equation_recipes.specs.Planned.{Is}
use Rattle.equation_recipes.proofs.Plain.{Makes}

-- ---- Del2

-- a single F(H) without an element of H: the words before it, and those behind it
module _ {k : List ℕ} {s : Side} {h : Hedge} (f : Functor) (c : Hedge) (v : Sided k s h) (e : h ≡ node f c ε)
    {i from to : ℕ} (n : i ≡ s.from + 1) {x r : Hedge} (t : Stands k i c (0 ∷ v.beyond)) (u : CutOut i from to x c r) where
  whole_words : hedge_words c ≡ body_words u.out.before ++ (body_words x ++ hedge_words u.out.behind)
  whole_words =
      ap hedge_words u.out.whole ∙ words-join u.out.before (x ⧺ u.out.behind)
      ∙ ap (λ ws. body_words u.out.before ++ ws) (words-join x u.out.behind)

  words-before : slice s.from from k ≡ functor_word f ∷ body_words u.out.before
  words-before =
      part_of k s.from from (functor_word f ∷ body_words u.out.before) ((body_words x ++ hedge_words u.out.behind) ++ (0 ∷ v.beyond))
      (v.here ∙ ap (λ (g : Hedge). hedge_words g ++ v.beyond) e ∙ ap (λ l. functor_word f ∷ l)
      (append_assoc (hedge_words c) (0 ∷ []) v.beyond ∙ ap (λ ws. ws ++ (0 ∷ v.beyond)) whole_words
      ∙ append_assoc (body_words u.out.before) (body_words x ++ hedge_words u.out.behind) (0 ∷ v.beyond)))
      (let p = u.place in omega arith)

  words-behind : slice to s.to k ≡ hedge_words u.out.behind ++ (0 ∷ [])
  words-behind =
      part_of k to s.to (hedge_words u.out.behind ++ (0 ∷ [])) v.beyond
      ((cut-behind t u).here ∙ sym (append_assoc (hedge_words u.out.behind) (0 ∷ []) v.beyond))
      (omega (
        arith,
        u.place,
        u.after,
        v.to,
        ap (λ (g : Hedge). length (hedge_words g)) e,
        ap length whole_words,
        length-append (hedge_words c) (0 ∷ []),
        length-append (body_words u.out.before) (body_words x ++ hedge_words u.out.behind),
        length-append (body_words x) (hedge_words u.out.behind),
        length-append (hedge_words u.out.behind) (0 ∷ []),
      ))

  words_left : hedge_words r ≡ body_words u.out.before ++ hedge_words u.out.behind
  words_left = ap hedge_words u.out.left ∙ words-join u.out.before u.out.behind

struck-words : {k : List ℕ} {v : View} {before behind : Conj} {l r : Hedge} (w : Sees k v before l r behind) (s : Spots) (f : Sym) (c e : Hedge) (us vs xs ys : List ℕ)
    → slice v.l.from s.left k ≡ functor_word (symbol f) ∷ us → slice s.after v.l.to k ≡ vs ++ (0 ∷ []) → hedge_words c ≡ us ++ vs
    → slice v.r.from s.right k ≡ functor_word (symbol f) ∷ xs → slice s.behind v.r.to k ≡ ys ++ (0 ∷ []) → hedge_words e ≡ xs ++ ys
    → numbered k (struck_out v s).first 0 0 ≡ conj_words (place before behind (plain (eqn (node (symbol f) c ε) (node (symbol f) e ε) ∷ [])))
unfolding numbered
struck-words w s f c e us vs xs ys a₁ a₂ a₃ b₁ b₂ b₃ = simp (sees-before w, sees-behind w, a₁, a₂, a₃, b₁, b₂, b₃, words_append, append_assoc, append-nil)

pub del2-plans : (σ : Signature) (k : List ℕ) (v : View) → Makes (Del2 σ) k v (λ l r. del2_plan k v)
del2-plans σ k v before behind l r w = planned
    (look (lone_node l) (lone_node-is l) λ a p. look (lone_node r) (lone_node-is r) λ b q.
    look (as_symbol a.0) (as_symbol-is a.0) λ f d. look (as_symbol b.0) (as_symbol-is b.0) λ g e. test _ λ _ same. test _ λ _ _.
    look (struck a.1 b.1) (it-found (struck a.1 b.1)) λ c found.
    let s = inner-stands a.0 a.1 w.left p in
    let t = inner-stands b.0 b.1 w.right q in
    let cut = (shares a.1 b.1 s t).cut c found in
    let m = side-forth w.left in
    let n = side-forth w.right in
    let x : functor_word a.0 ≡ functor_word (symbol f) = ap functor_word d in
    let y : functor_word b.0 ≡ functor_word (symbol f) = ap functor_word e ∙ ap (λ i. 3000 + i) (sym (eqb-true f.0 g.0 ((test-true (eqb f.0 g.0)).0 same))) in
    let us = body_words cut.left.out.before in
    let xs = body_words cut.right.out.before in
    answers (ap (λ o. results_of k (struck_where v o)) cut.told
    ∙ one-result k before behind (struck_out v cut.spots).first (struck_out v cut.spots).first 0 (plain (eqn (node (symbol f) c.0 ε) (node (symbol f) c.1 ε) ∷ []))
    (struck-words w cut.spots f c.0 c.1 us (hedge_words cut.left.out.behind) xs (hedge_words cut.right.out.behind)
    (words-before a.0 a.1 w.left p m s cut.left ∙ ap (λ i. i ∷ us) x) (words-behind a.0 a.1 w.left p m s cut.left) (words_left a.0 a.1 w.left p m s cut.left)
    (words-before b.0 b.1 w.right q n t cut.right ∙ ap (λ i. i ∷ xs) y) (words-behind b.0 b.1 w.right q n t cut.right) (words_left b.0 b.1 w.right q n t cut.right))))

-- ---- D1

module _ {k : List ℕ} {v : View} {before behind : Conj} {l r : Hedge} (w : Sees k v before l r behind) (f g : Functor) (h c : Hedge) (p : l ≡ node f h ε) (q : r ≡ node g c ε) where
  order-words : (n j : ℕ) (t : Hedge) → ordered k (right_inner k v).from n j ++ (0 ∷ []) ≡ hedge_words t
      → numbered k (reordered v (left_inner k v) (right_inner k v) n).first 0 j ≡ conj_words (place before behind (order_result h t))
  unfolding numbered
  order-words n j t e =
      simp (sym e, ap (λ i. slice i (v.l.to - 1) k) (side-forth w.left) ∙ side-children f h w.left p, sees-before w, sees-behind w, words_append, append_assoc, append-nil)

  order-results : results_of k (d1_plan k v r) ≡ placed_words before behind (map (order_result h) (orders c))
  unfolding results_of placed_words
  order-results =
      each-order c (inner-stands g c w.right q) (width (children_of r)) (ap (λ (m : Hedge). width (children_of m)) q)
      (numbered k (d1_plan k v r).first 0) (λ t. conj_words (place before behind (order_result h t))) (order-words (width (children_of r)))
      ∙ sym (map-map (λ b. conj_words (place before behind b)) (order_result h) (orders c))

pub d1-plans : (σ : Signature) (k : List ℕ) (v : View) → Makes (D1 σ) k v (λ l r. d1_plan k v r)
d1-plans σ k v before behind l r w = planned
    (look (lone_node l) (lone_node-is l) λ a p. look (lone_node r) (lone_node-is r) λ b q.
    look (as_symbol a.0) (as_symbol-is a.0) λ _ _. look (as_symbol b.0) (as_symbol-is b.0) λ _ _.
    test _ λ _ _. test _ λ _ _. test _ λ _ _. test _ λ _ _. answers (order-results w a.0 b.0 a.1 b.1 p q))

-- the terms that are counted are the children of the right side
pub d1-is : (σ : Signature) (k : List ℕ) (v : View) (t : Terms) → ((h : Hedge) (beyond : List ℕ) → Stands k (right_inner k v).from h beyond → Counted t h)
    → Is (D1 σ) k v (λ l r. d1_plan k v r) (reordered v (left_inner k v) (right_inner k v) t.count)
d1-is σ k v t count l r a = answered (λ _. reordered v (left_inner k v) (right_inner k v) t.count ≡ d1_plan k v r)
    (look (lone_node l) (lone_node-is l) λ c _. look (lone_node r) (lone_node-is r) λ b q.
    look (as_symbol c.0) (as_symbol-is c.0) λ _ _. look (as_symbol b.0) (as_symbol-is b.0) λ _ _.
    test _ λ _ _. test _ λ _ _. test _ λ _ all. test _ λ _ _.
    answers
    (let m = count b.1 _ (inner-stands b.0 b.1 a.seen.right q) in
    ap (reordered v (left_inner k v) (right_inner k v))
    (m.count (m.all ∙ (test-true (all_terms b.1)).0 all) ∙ size-width b.1 ∙ sym (ap (λ (m : Hedge). width (children_of m)) q))))
    a.results a.answer

-- ---- E7

module _ {k : List ℕ} {v : View} {before behind : Conj} {l r : Hedge} (w : Sees k v before l r behind) (X Y : FunVar) (h c : Hedge)
    (p : l ≡ node (fvar X) h ε) (q : r ≡ node (fvar Y) c ε) (same : eq_x X Y ≡ true) (symbols : ℕ) where
  name-words : (g : Sym) → numbered k (e7_plan k v symbols).first 0 g.0 ≡ conj_words (place before behind (named_result X h c g))
  unfolding numbered
  name-words g =
      let fine = subst (fine_hedge desk) p w.left.fine in
      let e : get_or k v.l.from 0 ≡ 4000 + X.0 = word-of k v.l.from _ w.left.here ∙ ap (λ (m : Hedge). get_or (hedge_words m ++ w.left.beyond) 0 0) p in
      let own : slice v.l.from (left_inner k v).from k ≡ (4000 + X.0) ∷ [] = ap (λ n. slice v.l.from n k) (side-forth w.left) ∙ side-functor (fvar X) h w.left p in
      let x = name-conj X g fine.0 k v.l.from e 0 v.at before w.fine_before (sees-before w) in
      let y = name-conj X g fine.0 k v.l.from e v.end v.len behind w.fine_behind (sees-behind w) in
      let z : renamed (get_or k v.l.from 0) (3000 + g.0) (slice v.l.from v.l.to k) ≡ hedge_words (node (symbol g) (put (set_f X (symbol g)) h) ε) =
      name-hedge X g fine.0 k v.l.from e v.l.from v.l.to (node (fvar X) h ε) fine (side-whole w.left ∙ ap hedge_words p)
      ∙ ap (λ (G : Functor). hedge_words (node G (put (set_f X (symbol g)) h) ε)) (set_self X (symbol g)) in
      let u : renamed (get_or k v.l.from 0) (3000 + g.0) (slice v.r.from v.r.to k) ≡ hedge_words (node (symbol g) (put (set_f X (symbol g)) c) ε) =
      name-hedge X g fine.0 k v.l.from e v.r.from v.r.to (node (fvar Y) c ε) (subst (fine_hedge desk) q w.right.fine) (side-whole w.right ∙ ap hedge_words q)
      ∙ ap (λ b. hedge_words (node (pick b (symbol g) (fvar Y)) (put (set_f X (symbol g)) c) ε)) same in
      let o = name-self X g fine.0 k v.l.from e in
      simp (x, y, z, u, o, own, words_append, append_assoc, append-nil)

  name-results : results_of k (e7_plan k v symbols) ≡ placed_words before behind (map (named_result X h c) (map (λ (n : ℕ). record { 0 = n }) (numbers 0 symbols)))
  unfolding results_of placed_words
  name-results =
      all (numbers 0 symbols) ∙ sym (map-map (λ (g : Sym). conj_words (place before behind (named_result X h c g))) (λ (n : ℕ). record { 0 = n }) (numbers 0 symbols))
      ∙ sym (map-map (λ b. conj_words (place before behind b)) (named_result X h c) (map (λ (n : ℕ). record { 0 = n }) (numbers 0 symbols)))
    where
      all : (ns : List ℕ) → map (numbered k (e7_plan k v symbols).first 0) ns ≡ map (λ (n : ℕ). conj_words (place before behind (named_result X h c (record { 0 = n })))) ns
      all [] = refl
      all (n ∷ ns) = ap (λ ws. ws ∷ map (numbered k (e7_plan k v symbols).first 0) ns) (name-words (record { 0 = n })) ∙ ap (λ m. conj_words (place before behind (named_result X h c (record { 0 = n }))) ∷ m) (all ns)

pub e7-plans : (σ : Signature) (k : List ℕ) (v : View) → Makes (E7 σ) k v (λ l r. e7_plan k v σ.symbols)
e7-plans σ k v before behind l r w = planned
    (look (lone_node l) (lone_node-is l) λ a p. look (as_blank a.0) (as_blank-is a.0) λ X d. look (lone_node r) (lone_node-is r) λ b q. look (as_blank b.0) (as_blank-is b.0) λ Y e.
    test _ λ _ same. test _ λ _ _. test _ λ _ _.
    answers (name-results w X Y a.1 b.1
    (p ∙ ap (λ (f : Functor). node f a.1 ε) d) (q ∙ ap (λ (f : Functor). node f b.1 ε) e) ((test-true (eq_x X Y)).0 same) σ.symbols))
