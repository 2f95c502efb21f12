-- Each test is that of its rule, line by line.
use Prim.Native.Nat.{ℕ}
use mathlib.Core.Path.{◌≡◌, refl}
use mathlib.Core.Bool.{Bool, true, false, not, ◌&&◌, and-true}
use Rattle.language.specs.declared.Signature.{Signature}
use Rattle.language.specs.Trees.{symbol, fvar, Hedge, ε, tvar, hvar, node, Expr, Conj, is_unordered, any_unordered, eq_s, eq_x, same_words}
use Rattle.rules.specs.Rules.{R1, R2, F1, F2, F3, F4, F5, F6, F7, Del1, Del2, Del3, D1, D2, D0, E1, E2, E3, E4, E5, E6, E7, M1, M2, M3, M4, M5, M6, M7, M10, M11, M12}
use Rattle.rules.specs.Solved.{is_some}
use Rattle.rules.specs.Each.{Each}
use Rattle.rules.specs.Elements.{struck}
use Rattle.rules.specs.Looks.{all_terms}
use Rattle.rules.specs.Ranks.{eqn_answer, mem_answer}
use Rattle.plans.proofs.Ranking.{check-on, none-on, bind-on, runs-terms, ◌▸◌}
use Rattle.views.specs.Looks.{look_of}
use Rattle.applies.specs.Parts.{lone_functor, name_in, is_symbol, symbol_of, blank_of, children_of}
use Rattle.applies.specs.Tests.{EqTest, InTest, test_r1, test_f1, test_f2, test_f3, test_f4, test_del1, test_del2, test_del3, test_d1, test_d2, test_d0, test_e1, test_e2, test_e3, test_e4, test_e5, test_e6, test_e7, equation_tests, test_r2, test_f5, test_f6, test_f7, test_m1, test_m2, test_m3, single_in, test_m7, test_m10, test_m11, test_m12, membership_tests}
use Rattle.applies.proofs.Lines.{functor_of, lone_t-on, lone_h-on, lone_node-on, lone_term-on, first_term-on, first_run-on, as_symbol-on, as_blank-on, as_over-on, eps-form, cat-form, alt-form, star-form, name-law, empty-law, last-law, bare-law, same-law, keeps-law, blank-law, variable-too, run-too, blank-too}

-- six tests before another, whatever they are
six-first : (a b c d e u x : Bool) → (a && (b && (c && (d && (e && (u && x)))))) ≡ ((a && (b && (c && (d && (e && u))))) && x)
six-first true true true true true u x = refl
six-first true true true true false u x = refl
six-first true true true false e u x = refl
six-first true true false d e u x = refl
six-first true false c d e u x = refl
six-first false b c d e u x = refl

-- where the function variable is the same, the children's words decide
by-children : (q w u : Bool) → (q && (not w && u)) ≡ (q && (not (q && w && true) && u))
by-children true true u = refl
by-children true false u = refl
by-children false w u = refl

abbrev blanks_by : Bool → Hedge → Hedge → Bool → Bool
blanks_by same l r u =
    lone_functor (look_of l) && (not (is_symbol (name_in (look_of l))) && (lone_functor (look_of r) && (not (is_symbol (name_in (look_of r)))
    && (eq_x (blank_of (name_in (look_of l))) (blank_of (name_in (look_of r))) && (not same && u)))))

children-words : (l r : Hedge) (u : Bool) → blanks_by (same_words (children_of l) (children_of r)) l r u ≡ blanks_by (same_words l r) l r u
children-words ε r u = refl
children-words (tvar x s) r u = refl
children-words (hvar p s) r u = refl
children-words (node (symbol f) c s) r u = refl
children-words (node (fvar X) c (tvar x s)) r u = refl
children-words (node (fvar X) c (hvar p s)) r u = refl
children-words (node (fvar X) c (node g d s)) r u = refl
children-words (node (fvar X) c ε) ε u = refl
children-words (node (fvar X) c ε) (tvar y t) u = refl
children-words (node (fvar X) c ε) (hvar q t) u = refl
children-words (node (fvar X) c ε) (node (symbol g) d t) u = refl
children-words (node (fvar X) c ε) (node (fvar Y) d ε) u = by-children (eq_x X Y) (same_words c d) u
children-words (node (fvar X) c ε) (node (fvar Y) d (tvar y t)) u = refl
children-words (node (fvar X) c ε) (node (fvar Y) d (hvar q t)) u = refl
children-words (node (fvar X) c ε) (node (fvar Y) d (node g e t)) u = refl

module _ (σ : Signature) (K : Conj) (l r : Hedge) where
  r1-law : is_some (R1 K l r) ≡ test_r1 K l r
  r1-law = simp (check-on, and-true)

  f1-law : is_some (F1 K l r) ≡ test_f1 K l r
  f1-law = simp (lone_t-on l, check-on, and-true)

  f2-law : is_some (F2 K l r) ≡ test_f2 K l r
  f2-law = simp (lone_h-on l, check-on, and-true)

  f3-law : is_some (F3 K l r) ≡ test_f3 K l r
  f3-law = simp (lone_node-on l, lone_node-on r, as_symbol-on, check-on, name-law l, name-law r, and-true)

  f4-law : is_some (F4 K l r) ≡ test_f4 K l r
  f4-law = simp (check-on, empty-law l, and-true)

  del1-law : is_some (Del1 K l r) ≡ test_del1 K l r
  del1-law = simp (first_run-on l, first_run-on r, check-on, and-true)

  del2-law : is_some (Del2 σ K l r) ≡ test_del2 σ K l r
  del2-law =
      simp (lone_node-on l, lone_node-on r, as_symbol-on, check-on, bind-on, name-law l, name-law r)
      (six-first (lone_functor (look_of l)) (lone_functor (look_of r)) (is_symbol (name_in (look_of l))) (is_symbol (name_in (look_of r))) (eq_s (symbol_of (name_in (look_of l))) (symbol_of (name_in (look_of r)))) (is_unordered σ (symbol_of (name_in (look_of l))))
      (is_some (struck (children_of l) (children_of r))))

  del3-law : is_some (Del3 K l r) ≡ test_del3 K l r
  del3-law = simp (lone_h-on l, bind-on)

  d1-law : is_some (D1 σ K l r) ≡ test_d1 σ K l r
  d1-law =
      simp (lone_node-on l, lone_node-on r, as_symbol-on, check-on, none-on, name-law l, name-law r, and-true)
      (six-first (lone_functor (look_of l)) (lone_functor (look_of r)) (is_symbol (name_in (look_of l))) (is_symbol (name_in (look_of r))) (eq_s (symbol_of (name_in (look_of l))) (symbol_of (name_in (look_of r)))) (is_unordered σ (symbol_of (name_in (look_of l))))
      (all_terms (children_of r) && not (is_some (struck (children_of l) (children_of r)))))

  d2-law : is_some (D2 K l r) ≡ test_d2 K l r
  d2-law = simp (first_term-on l, first_term-on r, check-on, last-law l, last-law r, and-true)

  d0-law : is_some (D0 σ K l r) ≡ test_d0 σ K l r
  d0-law = simp (lone_node-on l, lone_node-on r, check-on, same-law (functor_of l) (functor_of r), keeps-law σ, name-law l, name-law r, and-true)

  e1-law : is_some (E1 K l r) ≡ test_e1 K l r
  e1-law = simp (lone_t-on l, lone_term-on r, check-on, variable-too r K, and-true)

  e2-law : is_some (E2 K l r) ≡ test_e2 K l r
  e2-law = simp (lone_h-on l, check-on, run-too r K, and-true)

  e3-law : is_some (E3 K l r) ≡ test_e3 K l r
  e3-law = simp (first_run-on l, check-on, last-law l, and-true)

  e4-law : is_some (E4 K l r) ≡ test_e4 K l r
  e4-law = simp (first_run-on l, check-on, last-law l, bind-on)

  e5-law : is_some (E5 K l r) ≡ test_e5 K l r
  e5-law = simp (lone_node-on l, lone_node-on r, as_blank-on, check-on, bare-law l, bare-law r, blank-law, blank-too, name-law l, name-law r, and-true)

  e6-law : is_some (E6 K l r) ≡ test_e6 K l r
  e6-law = simp (lone_node-on l, lone_node-on r, as_blank-on, check-on, bare-law l, bare-law r, blank-law, name-law l, name-law r, and-true)

  e7-law : is_some (E7 σ K l r) ≡ test_e7 σ K l r
  e7-law = simp (lone_node-on l, lone_node-on r, as_blank-on, check-on, name-law l, name-law r, and-true) (children-words l r (any_unordered σ))

  -- the test of a place says whether its rule answers
  pub equation-laws : Each (λ (t : ℕ × EqTest). is_some (eqn_answer σ t.0 K l r) ≡ t.1 K l r) (equation_tests σ)
  unfolding eqn_answer
  equation-laws =
      r1-law ▸ f1-law ▸ f2-law ▸ f3-law ▸ f4-law ▸ del1-law ▸ del2-law ▸ del3-law ▸ d1-law ▸ d2-law ▸ d0-law ▸ e1-law ▸ e2-law ▸ e3-law ▸ e4-law ▸ e5-law ▸ e6-law ▸ e7-law ▸ tt

module _ (σ : Signature) (K : Conj) (h : Hedge) (R : Expr) where
  r2-law : is_some (R2 K h R) ≡ test_r2 h R
  r2-law = simp (check-on, empty-law h, and-true)

  f5-law : is_some (F5 K h R) ≡ test_f5 h R
  f5-law = simp (lone_node-on h, as_symbol-on, as_over-on R, check-on, name-law h, and-true)

  f6-law : is_some (F6 K h R) ≡ test_f6 h R
  f6-law = simp (check-on, empty-law h, and-true)

  f7-law : is_some (F7 K h R) ≡ test_f7 h R
  f7-law = simp (check-on, eps-form R, and-true)

  m1-law : is_some (M1 K h R) ≡ test_m1 h R
  m1-law = simp (check-on, empty-law h, runs-terms h, eps-form R, and-true)

  m2-law : is_some (M2 K h R) ≡ test_m2 h R
  m2-law = simp (first_term-on h, check-on, last-law h, eps-form R, and-true)

  m3-law : is_some (M3 K h R) ≡ test_m3 h R
  m3-law = simp (first_run-on h, check-on, last-law h, as_over-on R, and-true)

  m4-law : is_some (M4 K h R) ≡ single_in 7003 h R
  m4-law = simp (lone_term-on h, bind-on, star-form R)

  m5-law : is_some (M5 K h R) ≡ single_in 7001 h R
  m5-law = simp (lone_term-on h, bind-on, cat-form R)

  m6-law : is_some (M6 K h R) ≡ single_in 7002 h R
  m6-law = simp (lone_term-on h, bind-on, alt-form R)

  m7-law : is_some (M7 K h R) ≡ test_m7 h R
  m7-law = simp (first_run-on h, bind-on, alt-form R)

  m10-law : is_some (M10 K h R) ≡ test_m10 h R
  m10-law = simp (lone_node-on h, as_blank-on, as_over-on R, name-law h, and-true)

  m11-law : is_some (M11 σ K h R) ≡ test_m11 σ h R
  m11-law = simp (lone_node-on h, as_symbol-on, as_over-on R, check-on, name-law h, and-true)

  m12-law : is_some (M12 σ K h R) ≡ test_m12 σ h R
  m12-law = simp (lone_node-on h, as_symbol-on, as_over-on R, check-on, name-law h, and-true)

  pub membership-laws : Each (λ (t : ℕ × InTest). is_some (mem_answer σ t.0 K h R) ≡ t.1 h R) (membership_tests σ)
  unfolding mem_answer
  membership-laws =
      r2-law ▸ f5-law ▸ f6-law ▸ f7-law ▸ m1-law ▸ m2-law ▸ m3-law ▸ m4-law ▸ m5-law ▸ m6-law ▸ m7-law ▸ m10-law ▸ m11-law ▸ m12-law ▸ tt
