-- When words are one term: the tree they stand for, and that each tree's words are so.
use Prim.Native.Nat.{ℕ, zero, suc, ◌+◌, ◌-◌, ◌<◌}
use mathlib.Core.Path.{◌≡◌, refl, sym, ap, ◌∙◌}
use mathlib.Core.Bool.{Bool, true, false}
use mathlib.Core.List.{List, [], ◌∷◌, ◌++◌, append_assoc}
use native.Mathlib.Omega.{arith}
use borrow.Author.Tests.{eq-eqb, ne_eqb}
use lib.Dec.{eqb}
use lib.ListN.{length, get_or, drop}
use lib.Seq.{drop-cons}
use Rattle.language.specs.declared.Kind.{Kind}
use Rattle.language.specs.declared.Kind.TheVariants.{End, Term, Run, Symbol, Function, Equation, Membership, Eps, Cat, Alt, Star, Other}
use Rattle.language.specs.Limits.{desk}
use Rattle.language.specs.Kinds.{pick, kind_of}
use Rattle.language.specs.Trees.{Functor, symbol, fvar, Hedge, ε, tvar, hvar, node}
use Rattle.language.specs.Writing.{functor_word, hedge_words}
use Rattle.language.specs.Fine.{fine_functor, fine_hedge}
use Rattle.language.proofs.Words.{Is, is}
use Rattle.language.proofs.Words as words
use Rattle.rules.specs.Solved.{is_term}
use Rattle.patterns.specs.Terms.{goes, goes_on, closing, begins, one_term, Pattern}

false≢true : {A : Type 0} → ◌≡◌ {A = Bool} false true → A
false≢true e = absurd (let z : ◌≡◌ {A = ℕ} 0 1 = cc in omega arith)

-- ---- so many hedges in a row

abbrev Hedges : ℕ → Type 0
Hedges zero = Unit {0}
Hedges (suc n) = Hedge × Hedges n

abbrev all_words : (n : ℕ) → Hedges n → List ℕ
all_words zero hs = []
all_words (suc n) hs = hedge_words hs.0 ++ all_words n hs.1

abbrev AllFine : (n : ℕ) → Hedges n → Type 0
AllFine zero hs = Unit {0}
AllFine (suc n) hs = fine_hedge desk hs.0 × AllFine n hs.1

pub record Closed (depth : ℕ) (ws : List ℕ) : Type 0 where
  pub hedges : Hedges depth
  pub fine : AllFine depth hedges
  pub words : ws ≡ all_words depth hedges

name-over : (f : Functor) → fine_functor desk f → (n : ℕ) (w : ℕ) (ws : List ℕ) → w ≡ functor_word f → Closed (suc (suc n)) ws → Closed (suc n) (w ∷ ws)
name-over f i n w ws e c = record {
  hedges = (node f c.hedges.0 c.hedges.1.0, c.hedges.1.1);
  fine = ((i, c.fine.0, c.fine.1.0), c.fine.1.1);
  words = ap (λ v. v ∷ ws) e ∙ ap (λ l. functor_word f ∷ l) (c.words ∙ sym (append_assoc (hedge_words c.hedges.0) (hedge_words c.hedges.1.0) (all_words n c.hedges.1.1)));
}

pub closed : (depth : ℕ) (ws : List ℕ) → closing depth ws ≡ true → Closed depth ws
unfolding closing
closed zero [] e = record { hedges = tt; fine = tt; words = refl }
closed zero (w ∷ ws) e = false≢true e
closed (suc n) [] e = false≢true (sym (ne_eqb (suc n) 0 (λ z. omega arith)) ∙ e)
closed (suc n) (w ∷ ws) e = on (kind_of desk w) (is desk w) (λ d. closed d ws) (ap (λ b. pick b false (goes_on (λ d. closing d ws) (goes (suc n) (kind_of desk w)))) (sym (ne_eqb (suc n) 0 (λ z. omega arith))) ∙ e)
  where
    on : (k : Kind) → Is desk w k → ((d : ℕ) → closing d ws ≡ true → Closed d ws) → goes_on (λ d. closing d ws) (goes (suc n) k) ≡ true → Closed (suc n) (w ∷ ws)
    on End (words.end z) rest e =
        let d : suc n - 1 ≡ n = omega arith in
        let c = rest n (ap (λ d. closing d ws) (sym d) ∙ e) in
        record { hedges = (ε, c.hedges); fine = (tt, c.fine); words = ap (λ v. v ∷ ws) z ∙ ap (λ l. 0 ∷ l) c.words }
    on (Term x) (words.term y i z) rest e =
        let c = rest (suc n) e in
        record { hedges = (tvar x c.hedges.0, c.hedges.1); fine = ((i, c.fine.0), c.fine.1); words = ap (λ v. v ∷ ws) z ∙ ap (λ l. (1000 + x.0) ∷ l) c.words }
    on (Run p) (words.run y i z) rest e =
        let c = rest (suc n) e in
        record { hedges = (hvar p c.hedges.0, c.hedges.1); fine = ((i, c.fine.0), c.fine.1); words = ap (λ v. v ∷ ws) z ∙ ap (λ l. (2000 + p.0) ∷ l) c.words }
    on (Symbol f) (words.symbol y i z) rest e = name-over (symbol f) i n w ws z (rest (suc (suc n)) e)
    on (Function X) (words.function y i z) rest e = name-over (fvar X) i n w ws z (rest (suc (suc n)) e)
    on Equation i rest e = false≢true e
    on Membership i rest e = false≢true e
    on Eps i rest e = false≢true e
    on Cat i rest e = false≢true e
    on Alt i rest e = false≢true e
    on Star i rest e = false≢true e
    on Other i rest e = false≢true e

-- ---- one term

pub record Term-of (ws : List ℕ) : Type 0 where
  pub term : Hedge
  pub one : is_term term ≡ true
  pub pattern : Pattern ws term

-- words that are one term are those of a tree that is one
pub one-term : (ws : List ℕ) → one_term ws ≡ true → Term-of ws
unfolding one_term
one-term [] e = false≢true e
one-term (w ∷ ws) e = on (kind_of desk w) (is desk w) e
  where
    over : (f : Functor) → fine_functor desk f → is_term (node f ε ε) ≡ true → w ≡ functor_word f → Closed 1 ws → ((c : Hedge) → is_term (node f c ε) ≡ true) → Term-of (w ∷ ws)
    over f i o z c t = record {
      term = node f c.hedges.0 ε;
      one = t c.hedges.0;
      pattern = record {
        fine = (i, c.fine.0, tt);
        words = ap (λ l. l ++ (0 ∷ [])) (ap (λ v. v ∷ hedge_words c.hedges.0) (sym z)) ∙ ap (λ l. w ∷ (l ++ (0 ∷ []))) (sym (c.words ∙ nothing-behind (hedge_words c.hedges.0)));
      };
    }
      where
        nothing-behind : (l : List ℕ) → l ++ [] ≡ l
        nothing-behind [] = refl
        nothing-behind (x ∷ l) = ap (λ l. x ∷ l) (nothing-behind l)

    on : (k : Kind) → Is desk w k → goes_on (λ d. closing d ws) (begins k) ≡ true → Term-of (w ∷ ws)
    on (Term x) (words.term y i z) e =
        let c = closed 0 ws e in
        record { term = tvar x ε; one = refl; pattern = record { fine = (i, tt); words = ap (λ v. v ∷ (0 ∷ [])) (sym z) ∙ ap (λ l. w ∷ (l ++ (0 ∷ []))) (sym c.words) } }
    on (Symbol f) (words.symbol y i z) e = over (symbol f) i refl z (closed 1 ws e) (λ c. refl)
    on (Function X) (words.function y i z) e = over (fvar X) i refl z (closed 1 ws e) (λ c. refl)
    on (Run p) i e = false≢true e
    on End i e = false≢true e
    on Equation i e = false≢true e
    on Membership i e = false≢true e
    on Eps i e = false≢true e
    on Cat i e = false≢true e
    on Alt i e = false≢true e
    on Star i e = false≢true e
    on Other i e = false≢true e

-- ---- each turn of the scan

module _ (ws : List ℕ) (i depth : ℕ) (p : i < length ws) where
  abbrev left : ℕ → Bool
  left d = closing d (drop (suc i) ws)

  turn : closing depth (drop i ws) ≡ pick (eqb depth 0) false (goes_on left (goes depth (kind_of desk (get_or ws i 0))))
  unfolding closing
  turn = ap (closing depth) (drop-cons ws i 0 p)

  pub over-early : depth ≡ 0 → false ≡ closing depth (drop i ws)
  over-early e = sym (turn ∙ rw (eq-eqb depth 0 e) refl)

  pub goes_on_lem : (depth ≡ 0 → ⊥) → (k : Kind) → k ≡ kind_of desk (get_or ws i 0) → goes_on left (goes depth k) ≡ closing depth (drop i ws)
  goes_on_lem n k e = ap (λ k. goes_on left (goes depth k)) e ∙ sym (turn ∙ rw (ne_eqb depth 0 n) refl)
