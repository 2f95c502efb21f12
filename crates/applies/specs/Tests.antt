-- Each rule's test: whether it applies to one literal among the others K, by how the literal's parts begin and by what they hold.
use Rattle.std.specs.Prelude.{ℕ, ◌≡◌, Bool, not, ◌&&◌, ◌||◌, List, [], ◌∷◌, ◌++◌}
use Rattle.language.specs.declared.Signature.{Signature}
use Rattle.language.specs.Trees.{Hedge, Expr, Conj, is_unordered, any_unordered, eq_h, eq_s, eq_x, same_words, tv, hv, fv, holds, in_conj}
use Rattle.rules.specs.Looks.{has_term, all_terms, under, inside, up_to}
use Rattle.rules.specs.Elements.{struck}
use Rattle.rules.specs.Expressions.{nullable}
use Rattle.rules.specs.Solved.{is_some}
use Rattle.rules.specs.Places.{at_r1, at_r2, at_f1, at_f2, at_f3, at_f4, at_f5, at_f6, at_f7, at_del1, at_del2, at_del3, at_d1, at_d2, at_d0, at_e1, at_e2, at_e3, at_e4, at_e5, at_e6, at_e7, at_m1, at_m2, at_m3, at_m4, at_m5, at_m6, at_m7, at_m10, at_m11, at_m12}
use Rattle.views.specs.declared.View.{View}
use Rattle.views.specs.declared.Shape.{Shape}
use Rattle.views.specs.Looks.{look_of, first_kind}
use Rattle.views.specs.Views.{Sees, Shows}
use Rattle.applies.specs.Parts.{is_empty, is_term, is_run, is_last, is_bare, single, lone_variable, lone_run, lone_functor, variable_of, run_of, name_in, is_symbol, symbol_of, blank_of, is_blank, same_name, keeps_name, children_of, is_form, symbol_in}

-- ---- equations, from the side l

abbrev pub EqTest : Type 0
EqTest = Conj → Hedge → Hedge → Bool

-- b is what the test says of the equation that the view shows
abbrev pub Asks : EqTest → List ℕ → View → Bool → Type 0
Asks test k v b = (before behind : Conj) (l r : Hedge) → Sees k v before l r behind → b ≡ test (before ++ behind) l r

abbrev pub test_r1 : EqTest
test_r1 K l r = same_words l r

abbrev pub test_f1 : EqTest
test_f1 K l r = lone_variable (look_of l) && under (tv (variable_of (look_of l))) r

abbrev pub test_f2 : EqTest
test_f2 K l r = lone_run (look_of l) && (has_term r && holds (hv (run_of (look_of l))) r)

abbrev pub test_f3 : EqTest
test_f3 K l r =
    lone_functor (look_of l) && (lone_functor (look_of r)
    && (is_symbol (name_in (look_of l)) && (is_symbol (name_in (look_of r)) && not (eq_s (symbol_of (name_in (look_of l))) (symbol_of (name_in (look_of r)))))))

abbrev pub test_f4 : EqTest
test_f4 K l r = is_empty (look_of l) && has_term r

abbrev pub test_del1 : EqTest
test_del1 K l r = is_run (look_of l) && (is_run (look_of r) && eq_h (run_of (look_of l)) (run_of (look_of r)))

-- single terms with one and the same symbol, an unordered one
abbrev pub one_shuffled : Signature → EqTest
one_shuffled σ K l r =
    lone_functor (look_of l) && (lone_functor (look_of r) && (is_symbol (name_in (look_of l)) && (is_symbol (name_in (look_of r))
    && (eq_s (symbol_of (name_in (look_of l))) (symbol_of (name_in (look_of r))) && is_unordered σ (symbol_of (name_in (look_of l)))))))

abbrev pub test_del2 : Signature → EqTest
test_del2 σ K l r = one_shuffled σ K l r && is_some (struck (children_of l) (children_of r))

abbrev pub test_del3 : EqTest
test_del3 K l r = lone_run (look_of l) && is_some (inside (run_of (look_of l)) r)

abbrev pub test_d1 : Signature → EqTest
test_d1 σ K l r = one_shuffled σ K l r && (all_terms (children_of r) && not (is_some (struck (children_of l) (children_of r))))

abbrev pub test_d2 : EqTest
test_d2 K l r = is_term (look_of l) && (is_term (look_of r) && not (is_last (look_of l) && is_last (look_of r)))

abbrev pub test_d0 : Signature → EqTest
test_d0 σ K l r = lone_functor (look_of l) && (lone_functor (look_of r) && (same_name (name_in (look_of l)) (name_in (look_of r)) && keeps_name σ (name_in (look_of l))))

abbrev pub test_e1 : EqTest
test_e1 K l r =
    lone_variable (look_of l) && (single (look_of r) && (not (holds (tv (variable_of (look_of l))) r)
    && (in_conj (tv (variable_of (look_of l))) K && (not (lone_variable (look_of r)) || in_conj (tv (variable_of (look_of r))) K))))

abbrev pub test_e2 : EqTest
test_e2 K l r =
    lone_run (look_of l) && (not (holds (hv (run_of (look_of l))) r)
    && (in_conj (hv (run_of (look_of l))) K && (not (lone_run (look_of r)) || in_conj (hv (run_of (look_of r))) K)))

abbrev pub test_e3 : EqTest
test_e3 K l r = is_run (look_of l) && (not (is_last (look_of l)) && (all_terms r && not (holds (hv (run_of (look_of l))) r)))

abbrev pub test_e4 : EqTest
test_e4 K l r = is_run (look_of l) && (not (is_last (look_of l)) && is_some (up_to (run_of (look_of l)) r))

-- X in K, and a variable F too
abbrev pub blanks_in : EqTest
blanks_in K l r = in_conj (fv (blank_of (name_in (look_of l)))) K && (is_symbol (name_in (look_of r)) || in_conj (fv (blank_of (name_in (look_of r)))) K)

abbrev pub test_e5 : EqTest
test_e5 K l r =
    lone_functor (look_of l) && (not (is_symbol (name_in (look_of l))) && (lone_functor (look_of r)
    && (is_bare (look_of l) && (is_bare (look_of r) && (not (is_blank (blank_of (name_in (look_of l))) (name_in (look_of r))) && blanks_in K l r)))))

abbrev pub test_e6 : EqTest
test_e6 K l r =
    lone_functor (look_of l) && (not (is_symbol (name_in (look_of l))) && (lone_functor (look_of r)
    && (not (is_bare (look_of l) && is_bare (look_of r)) && not (is_blank (blank_of (name_in (look_of l))) (name_in (look_of r))))))

abbrev pub test_e7 : Signature → EqTest
test_e7 σ K l r =
    lone_functor (look_of l) && (not (is_symbol (name_in (look_of l))) && (lone_functor (look_of r) && (not (is_symbol (name_in (look_of r)))
    && (eq_x (blank_of (name_in (look_of l))) (blank_of (name_in (look_of r))) && (not (same_words l r) && any_unordered σ)))))

-- the place of each rule of equations, and its test
abbrev pub equation_tests : Signature → List (ℕ × EqTest)
equation_tests σ =
    (at_r1, test_r1) ∷ (at_f1, test_f1) ∷ (at_f2, test_f2) ∷ (at_f3, test_f3) ∷ (at_f4, test_f4)
    ∷ (at_del1, test_del1) ∷ (at_del2, test_del2 σ) ∷ (at_del3, test_del3) ∷ (at_d1, test_d1 σ) ∷ (at_d2, test_d2) ∷ (at_d0, test_d0 σ)
    ∷ (at_e1, test_e1) ∷ (at_e2, test_e2) ∷ (at_e3, test_e3) ∷ (at_e4, test_e4) ∷ (at_e5, test_e5) ∷ (at_e6, test_e6) ∷ (at_e7, test_e7 σ)
    ∷ []

-- ---- memberships

abbrev pub InTest : Type 0
InTest = Hedge → Expr → Bool

-- b is what the test says of the membership that the shape shows
abbrev pub AsksIn : InTest → List ℕ → Shape → Bool → Type 0
AsksIn test k s b = (before : Conj) (h : Hedge) (R : Expr) (behind : Conj) → Shows k s before h R behind → b ≡ test h R

abbrev pub test_r2 : InTest
test_r2 h R = is_empty (look_of h) && nullable R

abbrev pub test_f5 : InTest
test_f5 h R =
    lone_functor (look_of h) && (is_symbol (name_in (look_of h)) && (is_form 3000 (first_kind R) && not (eq_s (symbol_of (name_in (look_of h))) (symbol_in (first_kind R)))))

abbrev pub test_f6 : InTest
test_f6 h R = is_empty (look_of h) && not (nullable R)

abbrev pub test_f7 : InTest
test_f7 h R = has_term h && is_form 7000 (first_kind R)

abbrev pub test_m1 : InTest
test_m1 h R = not (is_empty (look_of h)) && (not (has_term h) && is_form 7000 (first_kind R))

abbrev pub test_m2 : InTest
test_m2 h R = is_term (look_of h) && (not (is_last (look_of h)) && not (is_form 7000 (first_kind R)))

abbrev pub test_m3 : InTest
test_m3 h R = is_run (look_of h) && (not (is_last (look_of h)) && is_form 3000 (first_kind R))

-- one term in an expression of that form: M4, M5, M6
abbrev pub single_in : ℕ → InTest
single_in x h R = single (look_of h) && is_form x (first_kind R)

abbrev pub test_m7 : InTest
test_m7 h R = is_run (look_of h) && is_form 7002 (first_kind R)

abbrev pub test_m10 : InTest
test_m10 h R = lone_functor (look_of h) && (not (is_symbol (name_in (look_of h))) && is_form 3000 (first_kind R))

abbrev pub test_m11 : Signature → InTest
test_m11 σ h R =
    lone_functor (look_of h) && (is_symbol (name_in (look_of h)) && (is_form 3000 (first_kind R)
    && (eq_s (symbol_of (name_in (look_of h))) (symbol_in (first_kind R)) && not (is_unordered σ (symbol_of (name_in (look_of h)))))))

abbrev pub test_m12 : Signature → InTest
test_m12 σ h R =
    lone_functor (look_of h) && (is_symbol (name_in (look_of h)) && (is_form 3000 (first_kind R)
    && (eq_s (symbol_of (name_in (look_of h))) (symbol_in (first_kind R)) && (is_unordered σ (symbol_of (name_in (look_of h))) && all_terms (children_of h)))))

-- the place of each rule of memberships, and its test
abbrev pub membership_tests : Signature → List (ℕ × InTest)
membership_tests σ =
    (at_r2, test_r2) ∷ (at_f5, test_f5) ∷ (at_f6, test_f6) ∷ (at_f7, test_f7)
    ∷ (at_m1, test_m1) ∷ (at_m2, test_m2) ∷ (at_m3, test_m3) ∷ (at_m4, single_in 7003) ∷ (at_m5, single_in 7001) ∷ (at_m6, single_in 7002) ∷ (at_m7, test_m7) ∷ (at_m10, test_m10) ∷ (at_m11, test_m11 σ) ∷ (at_m12, test_m12 σ)
    ∷ []
