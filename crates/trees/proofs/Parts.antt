-- What the word at a place leads to, for a term, a hedge, an expression, a literal and a conjunction.
use mathlib.Core.Path.{◌≡◌, refl, sym, ap, ◌∙◌}
use mathlib.Core.List.{List, [], ◌∷◌}
use Prim.Native.Nat.{ℕ, ◌+◌, ◌<◌, ◌≤◌}
use native.Mathlib.Omega.{arith}
use lib.ListN.{length, drop, get_or, drop_of_length-le}
use Rattle.language.proofs.Arms.{Among, each-kind}
use Rattle.language.specs.declared.Kind.{Kind}
use Rattle.language.specs.declared.Kind.TheVariants.{End, Term, Run, Equation, Membership, Eps}
use Rattle.language.specs.declared.TermVar.{TermVar}
use Rattle.language.specs.declared.HedgeVar.{HedgeVar}
use Rattle.language.specs.Limits.{desk}
use Rattle.language.specs.Kinds.{kind_of}
use Rattle.language.specs.Trees.{Functor, Hedge, ε, tvar, hvar, node, symbol, fvar, Expr, cat, alt, star, over, Literal, eqn, mem}
use Rattle.language.specs.Reading.{Got, got, stop, after, both, next, term_on, read_term, hedge_on, read_hedge, expr_on, read_expr, literal_on, read_literal, read_conj}
use Rattle.language.proofs.Steps.{read_hedge-step, read_expr-step}
use Rattle.language.proofs.Hedges.{term-at, hedge-at}
use Rattle.language.proofs.Expressions.{expr-at}
use Rattle.language.proofs.Formats.{Is, Right}
use Rattle.language.proofs.Literals.{literals, literal-at, literal-some, right-literal}
use Rattle.language.proofs.Conjunctions.{read_conj-step}
use Rattle.std.specs.Prelude.{Ok, Err}
use Rattle.trees.specs.Places.{placed}
use Rattle.trees.proofs.Placing.{placed-after, placed-next, placed-none, moves, then_at, past, both_at, here, at-kind}

module _ (w : List ℕ) (at : ℕ) where
  pub past-term : length w ≤ at → Err at ≡ placed at (read_term desk (drop at w))
  past-term p = past w at (read_term desk) (unfold read_term in refl) p

  pub past-hedge : length w ≤ at → Err at ≡ placed at (read_hedge desk (drop at w))
  past-hedge p = past w at (read_hedge desk) (read_hedge-step desk []) p

  pub past-expr : length w ≤ at → Err at ≡ placed at (read_expr desk (drop at w))
  past-expr p = past w at (read_expr desk) (read_expr-step desk []) p

  pub past-literal : length w ≤ at → Err at ≡ placed at (read_literal desk (drop at w))
  past-literal p = past w at (read_literal desk) (unfold read_literal in refl) p

  -- at a word of kind k
  module _ (p : at < length w) (k : Kind) (e : k ≡ kind_of desk (get_or w at 0)) where
    -- ---- a term

    to-term : placed at (term_on (read_hedge desk) k (drop (at + 1) w)) ≡ placed at (read_term desk (drop at w))
    to-term = at-kind w at (read_term desk) (term_on (read_hedge desk)) (term-at desk) p k e

    pub term-variable : {x : TermVar} → k ≡ Term x → Ok (at + 1) ≡ placed at (read_term desk (drop at w))
    unfolding placed
    term-variable i = ap (λ j. placed at (term_on (read_hedge desk) j (drop (at + 1) w))) (sym i) ∙ to-term

    -- a functor: its children
    pub term-functor : Among (3 ∷ 4 ∷ []) k → placed (at + 1) (read_hedge desk (drop (at + 1) w)) ≡ placed at (read_term desk (drop at w))
    term-functor o =
        each-kind (3 ∷ 4 ∷ []) (λ k. placed (at + 1) (read_hedge desk (drop (at + 1) w)) ≡ placed at (term_on (read_hedge desk) k (drop (at + 1) w))) tt tt tt (λ f. sym (placed-after at 1 _ _)) (λ X. sym (placed-after at 1 _ _)) tt tt tt tt tt tt tt k o
        ∙ to-term

    pub term-none : Among (0 ∷ 2 ∷ 5 ∷ 6 ∷ 7 ∷ 8 ∷ 9 ∷ 10 ∷ 11 ∷ []) k → Err at ≡ placed at (read_term desk (drop at w))
    term-none o =
        let n = placed-none Hedge at in
        each-kind (0 ∷ 2 ∷ 5 ∷ 6 ∷ 7 ∷ 8 ∷ 9 ∷ 10 ∷ 11 ∷ []) (λ k. Err at ≡ placed at (term_on (read_hedge desk) k (drop (at + 1) w))) n tt (λ p. n) tt tt n n n n n n n k o ∙ to-term

    -- ---- a hedge

    to-hedge : placed at (hedge_on (read_hedge desk) k (drop (at + 1) w)) ≡ placed at (read_hedge desk (drop at w))
    to-hedge = at-kind w at (read_hedge desk) (hedge_on (read_hedge desk)) (hedge-at desk) p k e

    pub hedge-end : k ≡ End → Ok (at + 1) ≡ placed at (read_hedge desk (drop at w))
    unfolding placed
    hedge-end i = ap (λ j. placed at (hedge_on (read_hedge desk) j (drop (at + 1) w))) (sym i) ∙ to-hedge

    pub hedge-variable : {v : HedgeVar} → k ≡ Run v → placed (at + 1) (read_hedge desk (drop (at + 1) w)) ≡ placed at (read_hedge desk (drop at w))
    hedge-variable {v} i = sym (placed-after at 1 (hvar v) _) ∙ ap (λ j. placed at (hedge_on (read_hedge desk) j (drop (at + 1) w))) (sym i) ∙ to-hedge

    children : (f : Functor) → then_at (read_hedge desk) w (placed at (after 1 (λ c. node f c ε) (read_hedge desk (drop (at + 1) w)))) ≡ placed at (next (both (node f) (read_hedge desk) (read_hedge desk) (drop (at + 1) w)))
    children f = ap (then_at (read_hedge desk) w) (placed-after at 1 (λ c. node f c ε) _) ∙ both_at w (at + 1) (node f) (read_hedge desk) (read_hedge desk) ∙ sym (placed-next at _)

    -- any other word: a term, and the hedge after it
    pub hedge-term : Among (1 ∷ 3 ∷ 4 ∷ 5 ∷ 6 ∷ 7 ∷ 8 ∷ 9 ∷ 10 ∷ 11 ∷ []) k → then_at (read_hedge desk) w (placed at (read_term desk (drop at w))) ≡ placed at (read_hedge desk (drop at w))
    unfolding placed
    hedge-term o =
        ap (then_at (read_hedge desk) w) (sym to-term)
        ∙ each-kind (1 ∷ 3 ∷ 4 ∷ 5 ∷ 6 ∷ 7 ∷ 8 ∷ 9 ∷ 10 ∷ 11 ∷ [])
        (λ k. then_at (read_hedge desk) w (placed at (term_on (read_hedge desk) k (drop (at + 1) w))) ≡ placed at (hedge_on (read_hedge desk) k (drop (at + 1) w)))
        tt (λ x. sym (placed-after at 1 (tvar x) (read_hedge desk (drop (at + 1) w)))) tt (λ f. children (symbol f)) (λ X. children (fvar X)) refl refl refl refl refl refl refl k o
        ∙ to-hedge

    -- which moves on
    pub term-moves : Among (1 ∷ 3 ∷ 4 ∷ 5 ∷ 6 ∷ 7 ∷ 8 ∷ 9 ∷ 10 ∷ 11 ∷ []) k → (q : ℕ) → placed at (read_term desk (drop at w)) ≡ Ok q → at < q
    term-moves o q r =
        each-kind (1 ∷ 3 ∷ 4 ∷ 5 ∷ 6 ∷ 7 ∷ 8 ∷ 9 ∷ 10 ∷ 11 ∷ []) (λ k. placed at (term_on (read_hedge desk) k (drop (at + 1) w)) ≡ Ok q → at < q)
        tt (λ x e. let z : at + 1 ≡ q = unfold placed in cc in omega arith) tt (λ f. some _) (λ X. some _) none none none none none none none k o (to-term ∙ r)
      where
        some : (f : Hedge → Hedge) → placed at (after 1 f (read_hedge desk (drop (at + 1) w))) ≡ Ok q → at < q
        some f e = let m = moves (at + 1) (read_hedge desk (drop (at + 1) w)) q (sym (placed-after at 1 f _) ∙ e) in omega arith

        none : placed {A = Hedge} at (stop 0) ≡ Ok q → at < q
        none e = let m : Err at ≡ Ok q = placed-none Hedge at ∙ e in absurd (let z : ◌≡◌ {A = ℕ} 0 1 = cc in omega arith)

    -- ---- an expression

    to-expr : placed at (expr_on (read_expr desk) k (drop (at + 1) w)) ≡ placed at (read_expr desk (drop at w))
    to-expr = at-kind w at (read_expr desk) (expr_on (read_expr desk)) (expr-at desk) p k e

    pub expr-eps : k ≡ Eps → Ok (at + 1) ≡ placed at (read_expr desk (drop at w))
    unfolding placed
    expr-eps i = ap (λ j. placed at (expr_on (read_expr desk) j (drop (at + 1) w))) (sym i) ∙ to-expr

    -- a symbol or a star: one part
    pub expr-one : Among (3 ∷ 10 ∷ []) k → placed (at + 1) (read_expr desk (drop (at + 1) w)) ≡ placed at (read_expr desk (drop at w))
    expr-one o =
        each-kind (3 ∷ 10 ∷ []) (λ k. placed (at + 1) (read_expr desk (drop (at + 1) w)) ≡ placed at (expr_on (read_expr desk) k (drop (at + 1) w)))
        tt tt tt (λ f. sym (placed-after at 1 (over f) _)) tt tt tt tt tt tt (sym (placed-after at 1 star _)) tt k o
        ∙ to-expr

    -- a concatenation or a choice: two parts
    pub expr-two : Among (8 ∷ 9 ∷ []) k → then_at (read_expr desk) w (placed (at + 1) (read_expr desk (drop (at + 1) w))) ≡ placed at (read_expr desk (drop at w))
    expr-two o =
        each-kind (8 ∷ 9 ∷ []) (λ k. then_at (read_expr desk) w (placed (at + 1) (read_expr desk (drop (at + 1) w))) ≡ placed at (expr_on (read_expr desk) k (drop (at + 1) w)))
        tt tt tt tt tt tt tt tt (two cat) (two alt) tt tt k o
        ∙ to-expr
      where
        two : (f : Expr → Expr → Expr) → then_at (read_expr desk) w (placed (at + 1) (read_expr desk (drop (at + 1) w))) ≡ placed at (next (both f (read_expr desk) (read_expr desk) (drop (at + 1) w)))
        two f = both_at w (at + 1) f (read_expr desk) (read_expr desk) ∙ sym (placed-next at _)

    pub expr-none : Among (0 ∷ 1 ∷ 2 ∷ 4 ∷ 5 ∷ 6 ∷ 11 ∷ []) k → Err at ≡ placed at (read_expr desk (drop at w))
    expr-none o =
        let n = placed-none Expr at in
        each-kind (0 ∷ 1 ∷ 2 ∷ 4 ∷ 5 ∷ 6 ∷ 11 ∷ []) (λ k. Err at ≡ placed at (expr_on (read_expr desk) k (drop (at + 1) w))) n (λ x. n) (λ p. n) tt (λ X. n) n n tt tt tt tt n k o ∙ to-expr

    -- ---- a literal

    to-literal : placed at (literal_on desk k (drop (at + 1) w)) ≡ placed at (read_literal desk (drop at w))
    to-literal = at-kind w at (read_literal desk) (literal_on desk) (literal-at desk) p k e

    pub literal-equation : k ≡ Equation → then_at (read_hedge desk) w (placed (at + 1) (read_hedge desk (drop (at + 1) w))) ≡ placed at (read_literal desk (drop at w))
    literal-equation i = both_at w (at + 1) eqn (read_hedge desk) (read_hedge desk) ∙ sym (placed-next at _) ∙ ap (λ j. placed at (literal_on desk j (drop (at + 1) w))) (sym i) ∙ to-literal

    pub literal-membership : k ≡ Membership → then_at (read_expr desk) w (placed (at + 1) (read_hedge desk (drop (at + 1) w))) ≡ placed at (read_literal desk (drop at w))
    literal-membership i = both_at w (at + 1) mem (read_hedge desk) (read_expr desk) ∙ sym (placed-next at _) ∙ ap (λ j. placed at (literal_on desk j (drop (at + 1) w))) (sym i) ∙ to-literal

    pub literal-none : Among (0 ∷ 1 ∷ 2 ∷ 3 ∷ 4 ∷ 7 ∷ 8 ∷ 9 ∷ 10 ∷ 11 ∷ []) k → Err at ≡ placed at (read_literal desk (drop at w))
    literal-none o =
        let n = placed-none Literal at in
        each-kind (0 ∷ 1 ∷ 2 ∷ 3 ∷ 4 ∷ 7 ∷ 8 ∷ 9 ∷ 10 ∷ 11 ∷ []) (λ k. Err at ≡ placed at (literal_on desk k (drop (at + 1) w))) n (λ x. n) (λ p. n) (λ f. n) (λ X. n) tt tt n n n n n k o ∙ to-literal

  -- ---- a conjunction

  pub literal-moves : (q : ℕ) → placed at (read_literal desk (drop at w)) ≡ Ok q → at < q
  unfolding placed
  literal-moves q e = on (read_literal desk (drop at w)) (right-literal desk (drop at w)) e
    where
      on : (g : Got Literal) → Right (Is (literals desk)) (read_literal desk) (drop at w) g → placed at g ≡ Ok q → at < q
      on (got l k) i e = let z : at + k ≡ q = cc in omega (arith, literal-some desk (drop at w) l k i)
      on (stop k) i e = absurd (let z : ◌≡◌ {A = ℕ} 0 1 = cc in omega arith)

  pub conj-literal : at < length w → then_at (read_conj desk) w (placed at (read_literal desk (drop at w))) ≡ placed at (read_conj desk (drop at w))
  conj-literal p = both_at w at ◌∷◌ (read_literal desk) (read_conj desk) ∙ ap (placed at) (sym (ap (read_conj desk) (here w at p) ∙ read_conj-step desk _ ∙ ap (both ◌∷◌ (read_literal desk) (read_conj desk)) (sym (here w at p))))

  pub conj-end : length w ≤ at → Ok at ≡ placed at (read_conj desk (drop at w))
  unfolding placed
  conj-end p = ap Ok (omega arith) ∙ ap (placed at) (sym (read_conj-step desk [])) ∙ ap (λ l. placed at (read_conj desk l)) (sym (drop_of_length-le w p))
