-- The words that a rule of one literal makes; of M2 by its monomials, and that it applies to no equation.
use Prim.Native.Nat.{ℕ}
use native.Mathlib.Omega.{arith}
use mathlib.Core.Path.{◌≡◌, refl, sym, ap, ◌∙◌, subst}
use mathlib.Core.Bool.{Bool, true, false}
use mathlib.Core.List.{List, [], ◌∷◌, ◌++◌, map}
use mathlib.Core.Option.{none, some}
use Rattle.std.specs.Prelude.{Result}
use Rattle.language.specs.declared.Refusal.{Refusal}
use Rattle.language.specs.declared.Signature.{Signature}
use Rattle.language.specs.Trees.{Hedge, ε, tvar, hvar, node, Expr, Literal, eqn, mem, Conj}
use Rattle.language.specs.Writing.{conj_words}
use Rattle.rules.specs.Looks.{first_term}
use Rattle.rules.specs.Step.{place}
use Rattle.rules.specs.Expressions.{linear}
use Rattle.rules.specs.Rules.{Branch, monomial_result, M2}
use Rattle.rules.specs.Places.{at_m2}
use Rattle.rules.proofs.Answers.{where-some, Where, Answers, look, test, answers}
use Rattle.views.specs.Looks.{head, tail}
use Rattle.rules.specs.Ranks.{eqn_answer, mem_answer}
use Rattle.plans.specs.Sizes.{placed_words, monomial_words}
use Rattle.views.specs.Standing.{LiteralAt}
use Rattle.search.specs.Ranking.{side_answer}
use Rattle.taking.specs.Taking.{Took}

-- ---- M2

first-parts : (h : Hedge) → Where (λ a. a ≡ (head h, tail h)) (first_term h)
first-parts ε = tt
first-parts (tvar x r) = refl
first-parts (hvar p r) = tt
first-parts (node f c r) = refl

monomials : (K : Conj) (h : Hedge) (R : Expr) → Answers (λ bs. bs ≡ map (monomial_result (head h) (tail h)) (linear R)) (M2 K h R)
monomials K h R =
    look (first_term h) (first-parts h) λ a e. test _ λ _ _. test _ λ _ _. answers (ap (λ a. map (monomial_result a.0 a.1) (linear R)) e)

pub no-equation : (σ : Signature) (swap : Bool) (K : Conj) (l r : Hedge) → side_answer σ swap at_m2 K (eqn l r) ≡ none
unfolding eqn_answer
no-equation σ true K l r = refl
no-equation σ false K l r = refl

-- where the rule is M2, the literal is a membership
pub took-monomials : (σ : Signature) (number : ℕ) (k old new : List ℕ) (next at n : ℕ) (swap : Bool) (r : Result ℕ Refusal) → n ≡ at_m2
    → ((before : Conj) (h : Hedge) (R : Expr) (behind : Conj) → LiteralAt k at before (mem h R) behind → Took number (monomial_words before h R behind) old next r new)
    → (before : Conj) (l : Literal) (behind : Conj) (bs : List Branch) → LiteralAt k at before l behind → side_answer σ swap n (before ++ behind) l ≡ some bs
    → Took number (placed_words before behind bs) old next r new
unfolding mem_answer monomial_words
took-monomials σ number k old new next at n swap r e f before (eqn l s) behind bs p a =
    absurd (let d = sym (no-equation σ swap (before ++ behind) l s) ∙ ap (λ n. side_answer σ swap n (before ++ behind) (eqn l s)) (sym e) ∙ a in let z : ◌≡◌ {A = ℕ} 0 1 = cc in omega arith)
took-monomials σ number k old new next at n swap r e f before (mem h R) behind bs p a =
    let d = where-some (λ bs. bs ≡ map (monomial_result (head h) (tail h)) (linear R)) (M2 (before ++ behind) h R) bs (monomials (before ++ behind) h R).given (ap (λ n. mem_answer σ n (before ++ behind) h R) (sym e) ∙ a) in
    subst (λ bs. Took number (placed_words before behind bs) old next r new) (sym d) (f before h R behind p)

-- ---- every rule of one literal

pub placed-words : (before behind : Conj) (bs : List Branch) → placed_words before behind bs ≡ map conj_words (map (place before behind) bs)
unfolding placed_words
placed-words before behind [] = refl
placed-words before behind (b ∷ bs) = ap (λ l. conj_words (place before behind b) ∷ l) (placed-words before behind bs)
