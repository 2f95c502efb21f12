-- The plans of the two rules that eliminate make the words of their results.
use Prim.Native.Nat.{ℕ, ◌+◌}
use mathlib.Core.Path.{◌≡◌, refl, ap, subst, ◌∙◌}
use mathlib.Core.Bool.{true}
use mathlib.Core.List.{List, [], ◌∷◌, append_assoc, append-nil}
use native.Mathlib.Omega.{arith}
use lib.Seq.{slice}
use Rattle.language.specs.declared.FunVar.{FunVar}
use Rattle.language.specs.declared.Sym.{Sym}
use Rattle.language.specs.Limits.{desk}
use Rattle.language.specs.Trees.{Functor, symbol, fvar, Hedge, ε, tvar, hvar, node, Expr, eqn, mem, Conj}
use Rattle.language.specs.Writing.{hedge_words, expr_words, conj_words}
use Rattle.language.specs.Fine.{fine_hedge}
use Rattle.rules.specs.Substitution.{set_f, emptied, put}
use Rattle.rules.specs.Looks.{all_runs, lone_node, as_blank, as_over}
use Rattle.rules.specs.Rules.{elims, vanish, M1, M10}
use Rattle.rules.specs.Step.{place}
use Rattle.rules.proofs.Tests.{test-true}
use Rattle.rules.proofs.Answers.{look, test, answers}
use Rattle.rules.proofs.Looks.{lone_node-is, as_blank-is, as_over-is}
use Rattle.plans.specs.declared.Recipe.{Recipe}
use Rattle.views.specs.declared.Shape.{Shape}
use Rattle.views.specs.Looks.{body_words}
use Rattle.views.specs.Views.{Shows}
use Rattle.plans.specs.Results.{empty_each, changed, made, numbered}
use Rattle.views.proofs.Words.{words_append}
use Rattle.views.proofs.Sides.{side-whole, shows-before, shows-behind, shows-expr}
use Rattle.plans.proofs.Replaced.{Acts, acts-functor, acts-emptied, put-conj, put-hedge, set_self}
use Rattle.plans.proofs.Planned.{planned, one-result}
use Rattle.plans.proofs.Sides.{side-forth, side-body, side-functor}
use Rattle.membership_plans.specs.Recipes.{vanished, m1_plan, m10_plan, hedge_inner, expr_inner}
use Rattle.membership_plans.proofs.Parts.{word-part}
use Rattle.membership_plans.proofs.Plain.{Makes}

-- ---- M1

-- p = ε for each word of a hedge of hedge variables
vanish-words : (h : Hedge) → all_runs h ≡ true → empty_each (body_words h) ≡ conj_words (vanish h)
vanish-words ε e = refl
vanish-words (tvar x r) e = absurd (let z : ◌≡◌ {A = ℕ} 0 1 = cc in omega arith)
vanish-words (hvar p r) e = ap (λ l. 5000 ∷ (2000 + p.0) ∷ 0 ∷ 0 ∷ l) (vanish-words r e)
vanish-words (node f c r) e = absurd (let z : ◌≡◌ {A = ℕ} 0 1 = cc in omega arith)

m1-words : {k : List ℕ} {s : Shape} {before : Conj} {h : Hedge} {R : Expr} {behind : Conj} (v : Shows k s before h R behind) (last : ℕ) → slice s.h.from last k ≡ body_words h → all_runs h ≡ true
    → made k (vanished s last).first 0 ≡ conj_words (place before behind (elims (vanish h) [] (emptied h)))
unfolding numbered
m1-words {k} {s} {before} {h} {R} {behind} v last e t =
    let a : Acts (emptied h) (body_words h) [] = acts-emptied h v.hedge.fine t in
    let q : Recipe = (vanished s last).first in
    let x = put-conj a k q 0 e refl 0 s.at before v.fine_before (shows-before v) in
    let y = put-conj a k q 0 e refl s.end s.len behind v.fine_behind (shows-behind v) in
    let z : empty_each (slice s.h.from last k) ≡ conj_words (vanish h) = ap empty_each e ∙ vanish-words h t in
    simp (x, y, z, words_append, append_assoc, append-nil)

pub m1-plans : (k : List ℕ) (s : Shape) → Makes M1 k s (λ h R. m1_plan k s)
m1-plans k s before h R behind v = planned
    (test _ λ _ _. test _ λ _ t. test _ λ _ _.
    answers (one-result k before behind (m1_plan k s).first (m1_plan k s).first 0 (elims (vanish h) [] (emptied h))
    (m1-words v (hedge_inner k s).to (side-body v.hedge) ((test-true (all_runs h)).0 t))))

-- ---- M10

m10-words : {k : List ℕ} {s : Shape} {before : Conj} {h : Hedge} {R : Expr} {behind : Conj} (v : Shows k s before h R behind) (X : FunVar) (g : Sym) (c : Hedge)
    → h ≡ node (fvar X) c ε → slice s.h.from (hedge_inner k s).from k ≡ (4000 + X.0) ∷ [] → slice s.expr (expr_inner k s).from k ≡ (3000 + g.0) ∷ []
    → made k (m10_plan k s).first (expr_inner k s).from
    ≡ conj_words (place before behind (elims (eqn (node (fvar X) ε ε) (node (symbol g) ε ε) ∷ []) (mem (node (symbol g) c ε) R ∷ []) (set_f X (symbol g))))
unfolding numbered
m10-words {k} {s} {before} {h} {R} {behind} v X g c p eu er =
    let fine : fine_hedge desk (node (fvar X) c ε) = subst (fine_hedge desk) p v.hedge.fine in
    let a : Acts (set_f X (symbol g)) ((4000 + X.0) ∷ []) ((3000 + g.0) ∷ []) = acts-functor X (symbol g) fine.0 in
    let q : Recipe = (m10_plan k s).first in
    let cut = (expr_inner k s).from in
    let x = put-conj a k q cut eu er 0 s.at before v.fine_before (shows-before v) in
    let y = put-conj a k q cut eu er s.end s.len behind v.fine_behind (shows-behind v) in
    let z : changed k q cut (slice s.h.from s.h.to k) ≡ hedge_words (node (symbol g) (put (set_f X (symbol g)) c) ε) =
    put-hedge a k q cut eu er s.h.from s.h.to (node (fvar X) c ε) fine (side-whole v.hedge ∙ ap hedge_words p)
    ∙ ap (λ (G : Functor). hedge_words (node G (put (set_f X (symbol g)) c) ε)) (set_self X (symbol g)) in
    simp (x, y, z, eu, er, shows-expr v, words_append, append_assoc, append-nil)

pub m10-plans : (k : List ℕ) (s : Shape) → Makes M10 k s (λ h R. m10_plan k s)
m10-plans k s before h R behind v = planned
    (look (lone_node h) (lone_node-is h) λ a p. look (as_blank a.0) (as_blank-is a.0) λ X b. look (as_over R) (as_over-is R) λ g q.
    let w : h ≡ node (fvar X) a.1 ε = p ∙ ap (λ (f : Functor). node f a.1 ε) b in
    answers (one-result k before behind (m10_plan k s).first (m10_plan k s).first (expr_inner k s).from _
    (m10-words v X g.0 a.1 w
    (ap (λ i. slice s.h.from i k) (side-forth v.hedge) ∙ side-functor (fvar X) a.1 v.hedge w)
    (word-part v (ap expr_words q)))))
