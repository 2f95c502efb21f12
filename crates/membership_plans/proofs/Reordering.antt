-- The plan of M12, one result for each order of the children.
use Prim.Native.Nat.{ℕ}
use mathlib.Core.Path.{◌≡◌, sym, ap, ◌∙◌}
use mathlib.Core.List.{List, [], ◌∷◌, ◌++◌, append_assoc, append-nil, map, map-map}
use lib.Seq.{slice}
use Rattle.language.specs.declared.Signature.{Signature}
use Rattle.language.specs.Trees.{Functor, Hedge, ε, node, Expr, Conj}
use Rattle.language.specs.Writing.{hedge_words, expr_words, conj_words}
use Rattle.rules.specs.Elements.{orders, width}
use Rattle.rules.specs.Looks.{lone_node, as_symbol, as_over, all_terms}
use Rattle.rules.specs.Rules.{order_member, M12}
use Rattle.rules.specs.Step.{place}
use Rattle.rules.proofs.Tests.{test-true}
use Rattle.rules.proofs.Answers.{look, test, answers}
use Rattle.rules.proofs.Looks.{lone_node-is, as_symbol-is, as_over-is}
use Rattle.views.specs.declared.Shape.{Shape}
use Rattle.views.specs.Standing.{Stands}
use Rattle.views.specs.Views.{Shows}
use Rattle.views.proofs.Words.{words_append}
use Rattle.views.proofs.Sides.{shows-before, shows-behind}
use Rattle.finds.specs.declared.Terms.{Terms}
use Rattle.finds.specs.Walks.{Counted}
use Rattle.finds.proofs.Widths.{size-width}
use Rattle.orders.specs.Orders.{ordered}
use Rattle.plans.specs.Results.{numbered, results_of}
use Rattle.plans.specs.Sizes.{placed_words}
use Rattle.plans.specs.Slots.{children_of}
use Rattle.plans.proofs.Planned.{answered, planned}
use Rattle.plans.proofs.Sides.{inner-stands}
use Rattle.plans.proofs.InOrder.{each-order}
use Rattle.membership_plans.specs.Recipes.{hedge_inner, expr_inner, reordered, m12_plan}
use Rattle.membership_plans.specs.Planned.{Is}
use Rattle.membership_plans.proofs.Parts.{inner-part}
use Rattle.membership_plans.proofs.Plain.{Makes}

module _ {k : List ℕ} {s : Shape} {before : Conj} {h : Hedge} {R : Expr} {behind : Conj} (v : Shows k s before h R behind) (f : Functor) (c : Hedge) (S : Expr) (p : h ≡ node f c ε)
    (e : slice (expr_inner k s).from s.end k ≡ expr_words S) where
  order-words : (n j : ℕ) (t : Hedge) → ordered k (hedge_inner k s).from n j ++ (0 ∷ []) ≡ hedge_words t
      → numbered k (reordered s (hedge_inner k s) (expr_inner k s) n).first 0 j ≡ conj_words (place before behind (order_member S t))
  unfolding numbered
  order-words n j t d = simp (sym d, e, shows-before v, shows-behind v, words_append, append_assoc, append-nil)

  order-results : results_of k (m12_plan k s h) ≡ placed_words before behind (map (order_member S) (orders c))
  unfolding results_of placed_words
  order-results =
      each-order c (inner-stands f c v.hedge p) (width (children_of h)) (ap (λ (m : Hedge). width (children_of m)) p)
      (numbered k (m12_plan k s h).first 0) (λ t. conj_words (place before behind (order_member S t))) (order-words (width (children_of h)))
      ∙ sym (map-map (λ b. conj_words (place before behind b)) (order_member S) (orders c))

pub m12-plans : (σ : Signature) (k : List ℕ) (s : Shape) → Makes (M12 σ) k s (λ h R. m12_plan k s h)
m12-plans σ k s before h R behind v = planned
    (look (lone_node h) (lone_node-is h) λ a p. look (as_symbol a.0) (as_symbol-is a.0) λ _ _. look (as_over R) (as_over-is R) λ g q.
    test _ λ _ _. test _ λ _ _. test _ λ _ _. answers (order-results v a.0 a.1 g.1 p (inner-part v (ap expr_words q))))

-- the terms that are counted are the children of the hedge
pub m12-is : (σ : Signature) (k : List ℕ) (s : Shape) (t : Terms) → ((h : Hedge) (beyond : List ℕ) → Stands k (hedge_inner k s).from h beyond → Counted t h)
    → Is (M12 σ) k s (λ h R. m12_plan k s h) (reordered s (hedge_inner k s) (expr_inner k s) t.count)
m12-is σ k s t count h R b = answered (λ _. reordered s (hedge_inner k s) (expr_inner k s) t.count ≡ m12_plan k s h)
    (look (lone_node h) (lone_node-is h) λ a p. look (as_symbol a.0) (as_symbol-is a.0) λ _ _. look (as_over R) (as_over-is R) λ _ _.
    test _ λ _ _. test _ λ _ _. test _ λ _ all.
    answers
    (let m = count a.1 _ (inner-stands a.0 a.1 b.shown.hedge p) in
    ap (reordered s (hedge_inner k s) (expr_inner k s))
    (m.count (m.all ∙ (test-true (all_terms a.1)).0 all) ∙ size-width a.1 ∙ sym (ap (λ (c : Hedge). width (children_of c)) p))))
    b.results b.answer
