-- The lone variable of a literal, by its words: the variable, and behind it the end of the hedge.
use Prim.Native.Nat.{ℕ, ◌+◌}
use mathlib.Core.Path.{◌≡◌, refl, sym, ap, ap₂, ◌∙◌}
use mathlib.Core.Bool.{Bool, true, false, false≢true}
use mathlib.Core.List.{List, [], ◌∷◌, ◌++◌, append_assoc}
use native.Mathlib.Omega.{arith}
use lib.Dec.{eqb}
use lib.ListN.{length, get_or, drop}
use Rattle.language.specs.declared.TermVar.{TermVar}
use Rattle.language.specs.declared.HedgeVar.{HedgeVar}
use Rattle.language.specs.declared.Kind.{Kind}
use Rattle.language.specs.Limits.{desk}
use Rattle.language.specs.Kinds.{pick, kind_of}
use Rattle.language.specs.Trees.{Functor, symbol, fvar, Hedge, ε, tvar, hvar, node, Expr, eps, cat, alt, star, over, mem, Conj}
use Rattle.language.specs.Writing.{functor_word, hedge_words, expr_words, conj_words}
use Rattle.language.specs.Fine.{fine_functor, fine_hedge}
use Rattle.language.proofs.Arms.{Among, each-kind}
use Rattle.language.proofs.Words.{kind-term, kind-run, kind-symbol, kind-function}
use Rattle.rules.specs.Looks.{empty}
use Rattle.words.proofs.Parts.{drop_of, word-of}
use Rattle.views.specs.Standing.{LiteralAt}
use Rattle.views.proofs.Seen.{literal-here}
use Rattle.clashes.specs.declared.Lone.{Lone}
use Rattle.clashes.specs.declared.Lone.TheVariants.{Nothing, Term, Run}
use Rattle.clashes.specs.Pairs.{lone_in, lone_kind, same_lone}

-- ---- by its kind

pub no-variable : {k j : Kind} → k ≡ j → Among (0 ∷ 3 ∷ 4 ∷ 5 ∷ 6 ∷ 7 ∷ 8 ∷ 9 ∷ 10 ∷ 11 ∷ []) k → Nothing ≡ lone_kind j
no-variable {k} e o =
    each-kind (0 ∷ 3 ∷ 4 ∷ 5 ∷ 6 ∷ 7 ∷ 8 ∷ 9 ∷ 10 ∷ 11 ∷ []) (λ j. Nothing ≡ lone_kind j)
    refl tt tt (λ x. refl) (λ x. refl) refl refl refl refl refl refl refl k o
    ∙ ap lone_kind e

pub terms-same : {a b : Lone} {x y : TermVar} → a ≡ Term x → b ≡ Term y → eqb x.0 y.0 ≡ same_lone a b
terms-same e d = sym (ap₂ same_lone e d)

pub runs_same : {a b : Lone} {p q : HedgeVar} → a ≡ Run p → b ≡ Run q → eqb p.0 q.0 ≡ same_lone a b
runs_same e d = sym (ap₂ same_lone e d)

-- ---- the words of a test

expr-first : (R : Expr) (v : List ℕ) → get_or (expr_words R ++ v) 0 0 ≡ 0 → ⊥
expr-first eps v e = omega arith
expr-first (cat a b) v e = omega arith
expr-first (alt a b) v e = omega arith
expr-first (star a) v e = omega arith
expr-first (over f a) v e = omega arith

functor-some : (F : Functor) → functor_word F ≡ 0 → ⊥
functor-some (symbol f) e = omega arith
functor-some (fvar X) e = omega arith

-- a hedge is empty exactly where its first word is 0
is-empty : (r : Hedge) (v : List ℕ) → get_or (hedge_words r ++ v) 0 0 ≡ 0 → empty r ≡ true
is-empty ε v e = refl
is-empty (tvar x r) v e = absurd (omega arith)
is-empty (hvar p r) v e = absurd (omega arith)
is-empty (node F c r) v e = absurd (functor-some F e)

not-empty : (r : Hedge) (v : List ℕ) → (get_or (hedge_words r ++ v) 0 0 ≡ 0 → ⊥) → empty r ≡ false
not-empty ε v e = absurd (e refl)
not-empty (tvar x r) v e = refl
not-empty (hvar p r) v e = refl
not-empty (node F c r) v e = refl

no-functor : (F : Functor) → fine_functor desk F → lone_kind (kind_of desk (functor_word F)) ≡ Nothing
no-functor (symbol f) b = ap lone_kind (kind-symbol desk f b)
no-functor (fvar X) b = ap lone_kind (kind-function desk X b)

module _ {k : List ℕ} {at : ℕ} {before : Conj} {h : Hedge} {R : Expr} {behind : Conj} (s : LiteralAt k at before (mem h R) behind) where
  pub hedge-here : drop (at + 1) k ≡ hedge_words h ++ (expr_words R ++ conj_words behind)
  hedge-here =
      drop_of k at (at + 1) (6000 ∷ []) ((hedge_words h ++ expr_words R) ++ conj_words behind) (literal-here s) refl
      ∙ append_assoc (hedge_words h) (expr_words R) (conj_words behind)

module _ (k : List ℕ) (i : ℕ) where
  -- the words at a place and right behind it
  two-words : (w : ℕ) (ws : List ℕ) → drop i k ≡ w ∷ ws → (get_or k i 0 ≡ w) × (get_or k (i + 1) 0 ≡ get_or ws 0 0)
  two-words w ws e = (word-of k i (w ∷ ws) e, word-of k (i + 1) ws (drop_of k i (i + 1) (w ∷ []) ws e refl))

  pub lone-ends : (h : Hedge) (R : Expr) (v : List ℕ) → fine_hedge desk h → drop i k ≡ hedge_words h ++ (expr_words R ++ v) → get_or k (i + 1) 0 ≡ 0
      → lone_kind (kind_of desk (get_or k i 0)) ≡ lone_in h
  lone-ends ε R v f e z = absurd (expr-first R v (sym (two-words 0 (expr_words R ++ v) e).1 ∙ z))
  lone-ends (tvar x r) R v f e z =
      let (a, b) = two-words (1000 + x.0) (hedge_words r ++ (expr_words R ++ v)) e in
      ap (λ w. lone_kind (kind_of desk w)) a ∙ ap lone_kind (kind-term desk x f.0) ∙ sym (ap (λ t. pick t (Term x) Nothing) (is-empty r (expr_words R ++ v) (sym b ∙ z)))
  lone-ends (hvar p r) R v f e z =
      let (a, b) = two-words (2000 + p.0) (hedge_words r ++ (expr_words R ++ v)) e in
      ap (λ w. lone_kind (kind_of desk w)) a ∙ ap lone_kind (kind-run desk p f.0) ∙ sym (ap (λ t. pick t (Run p) Nothing) (is-empty r (expr_words R ++ v) (sym b ∙ z)))
  lone-ends (node F c r) R v f e z =
      ap (λ w. lone_kind (kind_of desk w)) (word-of k i (hedge_words (node F c r) ++ (expr_words R ++ v)) e) ∙ no-functor F f.0

  pub lone-goes-on : (h : Hedge) (R : Expr) (v : List ℕ) → drop i k ≡ hedge_words h ++ (expr_words R ++ v) → (get_or k (i + 1) 0 ≡ 0 → ⊥) → Nothing ≡ lone_in h
  lone-goes-on ε R v e z = refl
  lone-goes-on (tvar x r) R v e z =
      let (a, b) = two-words (1000 + x.0) (hedge_words r ++ (expr_words R ++ v)) e in
      sym (ap (λ t. pick t (Term x) Nothing) (not-empty r (expr_words R ++ v) (λ y. z (b ∙ y))))
  lone-goes-on (hvar p r) R v e z =
      let (a, b) = two-words (2000 + p.0) (hedge_words r ++ (expr_words R ++ v)) e in
      sym (ap (λ t. pick t (Run p) Nothing) (not-empty r (expr_words R ++ v) (λ y. z (b ∙ y))))
  lone-goes-on (node F c r) R v e z = refl

module _ {k : List ℕ} {at : ℕ} {before : Conj} {h : Hedge} {R : Expr} {behind : Conj} (s : LiteralAt k at before (mem h R) behind) where
  next_place : get_or k (at + 2) 0 ≡ get_or k (at + 1 + 1) 0
  next_place = let z : at + 2 ≡ at + 1 + 1 = omega arith in ap (λ i. get_or k i 0) z

  pub lone-of-ends : {w : ℕ} → w ≡ get_or k (at + 2) 0 → w ≡ 0 → lone_kind (kind_of desk (get_or k (at + 1) 0)) ≡ lone_in h
  lone-of-ends e z = lone-ends k (at + 1) h R (conj_words behind) s.fine.0 (hedge-here s) (sym next_place ∙ sym e ∙ z)

  pub lone-of-goes-on : {w : ℕ} → w ≡ get_or k (at + 2) 0 → (w ≡ 0 → ⊥) → Nothing ≡ lone_in h
  lone-of-goes-on e z = lone-goes-on k (at + 1) h R (conj_words behind) (hedge-here s) (λ y. z (e ∙ next_place ∙ y))

-- ---- where it is one variable, the hedge has two words

two-long : (r : Hedge) → empty r ≡ true → length (hedge_words r) ≡ 1
two-long ε e = refl
two-long (tvar x r) e = absurd (false≢true e)
two-long (hvar p r) e = absurd (false≢true e)
two-long (node F c r) e = absurd (false≢true e)

pub nothing-same : (a : Lone) → same_lone a Nothing ≡ false
nothing-same Nothing = refl
nothing-same (Term x) = refl
nothing-same (Run p) = refl

pub first_two : (h : Hedge) (y : Lone) → same_lone (lone_in h) y ≡ true → length (hedge_words h) ≡ 2
first_two ε y e = absurd (false≢true e)
first_two (tvar x r) y e = by (empty r) refl e
  where
    by : (t : Bool) → empty r ≡ t → same_lone (pick t (Term x) Nothing) y ≡ true → length (hedge_words (tvar x r)) ≡ 2
    by true d e = let z = two-long r d in omega arith
    by false d e = absurd (false≢true e)
first_two (hvar p r) y e = by (empty r) refl e
  where
    by : (t : Bool) → empty r ≡ t → same_lone (pick t (Run p) Nothing) y ≡ true → length (hedge_words (hvar p r)) ≡ 2
    by true d e = let z = two-long r d in omega arith
    by false d e = absurd (false≢true e)
first_two (node F c r) y e = absurd (false≢true e)

pub second-two : (x : Lone) (h : Hedge) → same_lone x (lone_in h) ≡ true → length (hedge_words h) ≡ 2
second-two x ε e = absurd (false≢true (sym (nothing-same x) ∙ e))
second-two x (tvar y r) e = by (empty r) refl e
  where
    by : (t : Bool) → empty r ≡ t → same_lone x (pick t (Term y) Nothing) ≡ true → length (hedge_words (tvar y r)) ≡ 2
    by true d e = let z = two-long r d in omega arith
    by false d e = absurd (false≢true (sym (nothing-same x) ∙ e))
second-two x (hvar p r) e = by (empty r) refl e
  where
    by : (t : Bool) → empty r ≡ t → same_lone x (pick t (Run p) Nothing) ≡ true → length (hedge_words (hvar p r)) ≡ 2
    by true d e = let z = two-long r d in omega arith
    by false d e = absurd (false≢true (sym (nothing-same x) ∙ e))
second-two x (node F c r) e = absurd (false≢true (sym (nothing-same x) ∙ e))
