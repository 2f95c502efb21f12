-- What a substitution does to a variable: one that it leaves alone stands where it stood, and one that it puts nowhere stands nowhere.
use Prim.Native.Nat.{ℕ, ◌+◌, ◌≤◌}
use mathlib.Core.Path.{◌≡◌, refl, sym, ap, ◌∙◌, subst}
use mathlib.Core.Bool.{Bool, true, false, ◌&&◌}
use mathlib.Core.List.{[], ◌∷◌}
use native.Mathlib.Omega.{arith}
use lib.Dec.{T}
use Rattle.language.specs.declared.TermVar.{TermVar}
use Rattle.language.specs.declared.HedgeVar.{HedgeVar}
use Rattle.language.specs.declared.FunVar.{FunVar}
use Rattle.language.specs.Kinds.{pick}
use Rattle.language.specs.Trees.{Functor, symbol, fvar, Hedge, ε, tvar, hvar, node, eqn, mem, Conj, ◌⧺◌, eq_t, eq_h, eq_x, Var, tv, hv, fv, eq_v, holds}
use Rattle.rules.specs.Looks.{empty}
use Rattle.rules.specs.Solved.{given, is_term, is_functor, variable}
use Rattle.rules.specs.Substitution.{Subst, set_t, set_h, set_f, emptied, put_f, put, put_c}
use Rattle.rules.proofs.Looks.{empty-is}
use Rattle.rules.proofs.Names.{eq_t-is, eq_h-is, eq_x-is, eq_v-is}
use Rattle.rules.proofs.Tests.{and_parts, true-test, test-true}
use Rattle.exact.specs.Made.{Name, a_symbol, a_variable, MadeF, Made, MadeC}
use Rattle.exact.proofs.Made.{Puts}
use Rattle.ends.specs.Measure.{one, occ_f, occ, occ_c, is, own_c, places, hedges}
use Rattle.ends.proofs.Sums.{none_of, one_of, occ-⧺, odd-none}

-- ---- made of other variables

abbrev pub Apart : Var → Name → Type 0
Apart v (a_symbol f) = Unit {0}
Apart v (a_variable w) = eq_v v w ≡ false

zero-apart : (b : Bool) (n : ℕ) → one b + n ≡ 0 → b ≡ false
zero-apart true n e = absurd (omega arith)
zero-apart false n e = refl

apart-functor : (v : Var) (f : Functor) → occ_f v f ≡ 0 → MadeF (Apart v) f
apart-functor v (symbol f) e = tt
apart-functor v (fvar X) e = zero-apart (eq_v v (fv X)) 0 (omega arith)

pub apart : (v : Var) (h : Hedge) → occ v h ≡ 0 → Made (Apart v) h
apart v ε e = tt
apart v (tvar x r) e = (zero-apart (eq_v v (tv x)) (occ v r) e, apart v r (omega arith))
apart v (hvar p r) e = (zero-apart (eq_v v (hv p)) (occ v r) e, apart v r (omega arith))
apart v (node f c r) e = (apart-functor v f (omega arith), apart v c (omega arith), apart v r (omega arith))

functor-apart : (v : Var) (f : Functor) → MadeF (Apart v) f → occ_f v f ≡ 0
functor-apart v (symbol f) m = refl
functor-apart v (fvar X) m = none_of (eq_v v (fv X)) m

pub made-apart : (v : Var) (h : Hedge) → Made (Apart v) h → occ v h ≡ 0
made-apart v ε m = refl
made-apart v (tvar x r) m = let y = none_of (eq_v v (tv x)) m.0 in let z = made-apart v r m.1 in omega arith
made-apart v (hvar p r) m = let y = none_of (eq_v v (hv p)) m.0 in let z = made-apart v r m.1 in omega arith
made-apart v (node f c r) m = let x = functor-apart v f m.0 in let y = made-apart v c m.1 in let z = made-apart v r m.2 in omega arith

pub made-apart-all : (v : Var) (k : Conj) → MadeC (Apart v) k → occ_c v k ≡ 0
made-apart-all v [] m = refl
made-apart-all v (eqn l r ∷ k) m = let x = made-apart v l m.0.0 in let y = made-apart v r m.0.1 in let z = made-apart-all v k m.1 in omega arith
made-apart-all v (mem h R ∷ k) m = let x = made-apart v h m.0.0 in let z = made-apart-all v k m.1 in omega arith

-- ---- a variable that is left alone

-- v itself is left
pub record Leaves (v : Var) (s : Subst) : Type 0 where
  pub term : (x : TermVar) → T (eq_v v (tv x)) → s.term x ≡ tvar x ε
  pub hedge : (p : HedgeVar) → T (eq_v v (hv p)) → s.hedge p ≡ hvar p ε
  pub functor : (X : FunVar) → T (eq_v v (fv X)) → s.functor X ≡ fvar X

-- a term stays a term
abbrev pub OneTerm : Subst → Type 0
OneTerm s = (x : TermVar) → is_term (s.term x) ≡ true

bool : (b : Bool) {A : Type 0} → (T b → A) → (b ≡ false → A) → A
bool true f g = f tt
bool false f g = g refl

module _ (v : Var) (s : Subst) (keeps : Leaves v s) (puts : Puts (Apart v) s) where
  put-functor : (f : Functor) → occ_f v (put_f s f) ≡ occ_f v f
  put-functor (symbol f) = refl
  put-functor (fvar X) =
      bool (eq_v v (fv X)) (λ t. ap (occ_f v) (keeps.functor X t)) (λ e. functor-apart v (s.functor X) (puts.functor X e) ∙ sym (none_of (eq_v v (fv X)) e))

  pub put_keeps : (h : Hedge) → occ v (put s h) ≡ occ v h
  put_keeps ε = refl
  put_keeps (tvar x r) =
      let z = put_keeps r in let y = occ-⧺ v (s.term x) (put s r) in
      let w : occ v (s.term x) ≡ one (eq_v v (tv x)) + 0 =
      bool (eq_v v (tv x)) (λ t. ap (occ v) (keeps.term x t)) (λ e. made-apart v (s.term x) (puts.term x e) ∙ (let q = none_of (eq_v v (tv x)) e in omega arith)) in
      omega arith
  put_keeps (hvar p r) =
      let z = put_keeps r in let y = occ-⧺ v (s.hedge p) (put s r) in
      let w : occ v (s.hedge p) ≡ one (eq_v v (hv p)) + 0 =
      bool (eq_v v (hv p)) (λ t. ap (occ v) (keeps.hedge p t)) (λ e. made-apart v (s.hedge p) (puts.hedge p e) ∙ (let q = none_of (eq_v v (hv p)) e in omega arith)) in
      omega arith
  put_keeps (node f c r) = let x = put-functor f in let y = put_keeps c in let z = put_keeps r in omega arith

  pub put-keeps-all : (k : Conj) → occ_c v (put_c s k) ≡ occ_c v k
  put-keeps-all [] = refl
  put-keeps-all (eqn l r ∷ k) = let x = put_keeps l in let y = put_keeps r in let z = put-keeps-all k in omega arith
  put-keeps-all (mem h R ∷ k) = let x = put_keeps h in let z = put-keeps-all k in omega arith

  module _ (terms : OneTerm s) where
    ⧺-term : (t : Hedge) → is_term t ≡ true → is_term (t ⧺ ε) ≡ true
    ⧺-term ε e = e
    ⧺-term (tvar x r) e = rw (empty-is r (true-test (empty r) e)) refl
    ⧺-term (hvar p r) e = e
    ⧺-term (node f c r) e = rw (empty-is r (true-test (empty r) e)) refl

    term-stays : (t : Hedge) → is_term t ≡ true → is_term (put s t) ≡ true
    term-stays ε e = e
    term-stays (tvar x r) e = rw (empty-is r (true-test (empty r) e)) (⧺-term (s.term x) (terms x))
    term-stays (hvar p r) e = absurd (let z : ◌≡◌ {A = ℕ} 0 1 = cc in omega arith)
    term-stays (node f c r) e = rw (empty-is r (true-test (empty r) e)) refl

    functor-stays : (t : Hedge) → is_functor t ≡ true → is_functor (put s t) ≡ true
    functor-stays ε e = e
    functor-stays (tvar x r) e = absurd (let z : ◌≡◌ {A = ℕ} 0 1 = cc in omega arith)
    functor-stays (hvar p r) e = absurd (let z : ◌≡◌ {A = ℕ} 0 1 = cc in omega arith)
    functor-stays (node f c r) e =
        let (a, b) = and_parts (empty c) (empty r) (true-test (empty c && empty r) e) in rw (empty-is c a, empty-is r b) refl

    given_stays : (w : Var) (b : Bool) (n : ℕ) → (T b → T (eq_v v w) → 1 ≤ n) → is v (given b w) ≤ n
    given_stays w true n h = bool (eq_v v w) (λ t. let z = one_of (eq_v v w) t in let y = h tt t in omega arith) (λ e. let z = none_of (eq_v v w) e in omega arith)
    given_stays w false n h = omega arith

    pub variable-stays : (l r : Hedge) → is v (variable l r) ≤ is v (variable (put s l) (put s r))
    variable-stays ε r = omega arith
    variable-stays (tvar x q) r = given_stays (tv x) (empty q && is_term r) _ λ b t.
        let (a, c) = and_parts (empty q) (is_term r) b in
        rw (empty-is q a, keeps.term x t, term-stays r ((test-true (is_term r)).0 c)) (let z = one_of (eq_v v (tv x)) t in omega arith)
    variable-stays (hvar p q) r = given_stays (hv p) (empty q) _ λ a t.
        rw (empty-is q a, keeps.hedge p t) (let z = one_of (eq_v v (hv p)) t in omega arith)
    variable-stays (node (symbol f) c q) r = omega arith
    variable-stays (node (fvar X) c q) r = given_stays (fv X) (empty c && empty q && is_functor r) _ λ b t.
        let (a, d) = and_parts (empty c && empty q) (is_functor r) b in
        let (e, g) = and_parts (empty c) (empty q) a in
        rw (empty-is c e, empty-is q g, keeps.functor X t, functor-stays r ((test-true (is_functor r)).0 d)) (let z = one_of (eq_v v (fv X)) t in omega arith)

    pub own-stays : (k : Conj) → own_c v k ≤ own_c v (put_c s k)
    own-stays [] = omega arith
    own-stays (eqn l r ∷ k) = let x = variable-stays l r in let y = variable-stays r l in let z = own-stays k in omega arith
    own-stays (mem h R ∷ k) = let z = own-stays k in omega arith

-- ---- a variable that is put nowhere

pub record Clears (v : Var) (s : Subst) : Type 0 where
  pub term : (x : TermVar) → occ v (s.term x) ≡ 0
  pub hedge : (p : HedgeVar) → occ v (s.hedge p) ≡ 0
  pub functor : (X : FunVar) → occ_f v (s.functor X) ≡ 0

module _ (v : Var) (s : Subst) (clear : Clears v s) where
  clear-functor : (f : Functor) → occ_f v (put_f s f) ≡ 0
  clear-functor (symbol f) = refl
  clear-functor (fvar X) = clear.functor X

  clear-hedge : (h : Hedge) → occ v (put s h) ≡ 0
  clear-hedge ε = refl
  clear-hedge (tvar x r) = let z = occ-⧺ v (s.term x) (put s r) in let y = clear.term x in let w = clear-hedge r in omega arith
  clear-hedge (hvar p r) = let z = occ-⧺ v (s.hedge p) (put s r) in let y = clear.hedge p in let w = clear-hedge r in omega arith
  clear-hedge (node f c r) = let z = clear-functor f in let y = clear-hedge c in let w = clear-hedge r in omega arith

  pub clear-all : (k : Conj) → occ_c v (put_c s k) ≡ 0
  clear-all [] = refl
  clear-all (eqn l r ∷ k) = let x = clear-hedge l in let y = clear-hedge r in let z = clear-all k in omega arith
  clear-all (mem h R ∷ k) = let x = clear-hedge h in let z = clear-all k in omega arith

-- ---- the substitutions of the rules

module _ (v : Var) where
  pub set_t-leaves : (x : TermVar) (t : Hedge) → eq_v v (tv x) ≡ false → Leaves v (set_t x t)
  set_t-leaves x t e = record {
    term = λ y q. bool (eq_t x y) (λ p. absurd (other y p q)) (λ d. ap (λ b. pick b t (tvar y ε)) d);
    hedge = λ p q. refl;
    functor = λ X q. refl;
  }
    where
      other : (y : TermVar) → T (eq_t x y) → T (eq_v v (tv y)) → ⊥
      other y p q = subst T (ap (λ (z : TermVar). eq_v v (tv z)) (sym (eq_t-is x y p)) ∙ e) q

  pub set_h-leaves : (p : HedgeVar) (t : Hedge) → eq_v v (hv p) ≡ false → Leaves v (set_h p t)
  set_h-leaves p t e = record {
    term = λ y q. refl;
    hedge = λ y q. bool (eq_h p y) (λ d. absurd (other y d q)) (λ d. ap (λ b. pick b t (hvar y ε)) d);
    functor = λ X q. refl;
  }
    where
      other : (y : HedgeVar) → T (eq_h p y) → T (eq_v v (hv y)) → ⊥
      other y d q = subst T (ap (λ (z : HedgeVar). eq_v v (hv z)) (sym (eq_h-is p y d)) ∙ e) q

  pub set_f-leaves : (X : FunVar) (f : Functor) → eq_v v (fv X) ≡ false → Leaves v (set_f X f)
  set_f-leaves X f e = record {
    term = λ y q. refl;
    hedge = λ p q. refl;
    functor = λ Y q. bool (eq_x X Y) (λ d. absurd (other Y d q)) (λ d. ap (λ b. pick b f (fvar Y)) d);
  }
    where
      other : (Y : FunVar) → T (eq_x X Y) → T (eq_v v (fv Y)) → ⊥
      other Y d q = subst T (ap (λ (z : FunVar). eq_v v (fv z)) (sym (eq_x-is X Y d)) ∙ e) q

  pub emptied-leaves : (h : Hedge) → holds v h ≡ false → Leaves v (emptied h)
  emptied-leaves h e = record {
    term = λ y q. refl;
    hedge = λ p q. ap (λ b. pick b ε (hvar p ε)) (ap (λ w. holds w h) (sym (eq_v-is v (hv p) q)) ∙ e);
    functor = λ Y q. refl;
  }

pub set_t-clears : (x : TermVar) (t : Hedge) → occ (tv x) t ≡ 0 → Clears (tv x) (set_t x t)
set_t-clears x t e = record {
  term = λ y. bool (eq_t x y) (λ p. rw ((test-true (eq_t x y)).0 p) e) (λ d. rw (d, d) refl);
  hedge = λ p. refl;
  functor = λ X. refl;
}

pub set_h-clears : (p : HedgeVar) (t : Hedge) → occ (hv p) t ≡ 0 → Clears (hv p) (set_h p t)
set_h-clears p t e = record {
  term = λ y. refl;
  hedge = λ q. bool (eq_h p q) (λ d. rw ((test-true (eq_h p q)).0 d) e) (λ d. rw (d, d) refl);
  functor = λ X. refl;
}

pub set_f-clears : (X : FunVar) (f : Functor) → occ_f (fv X) f ≡ 0 → Clears (fv X) (set_f X f)
set_f-clears X f e = record {
  term = λ y. refl;
  hedge = λ p. refl;
  functor = λ Y. bool (eq_x X Y) (λ d. rw ((test-true (eq_x X Y)).0 d) e) (λ d. rw (d, d) refl);
}

-- a run that vanishes makes nothing longer
pub emptied-shorter : (h g : Hedge) → places (put (emptied h) g) ≤ places g
emptied-shorter h ε = omega arith
emptied-shorter h (tvar x r) = let z = emptied-shorter h r in omega arith
emptied-shorter h (hvar p r) = bool (holds (hv p) h)
    (λ t. rw ((test-true (holds (hv p) h)).0 t) (let z = emptied-shorter h r in omega arith)) (λ e. rw e (let z = emptied-shorter h r in omega arith))
emptied-shorter h (node f c r) = let y = emptied-shorter h c in let z = emptied-shorter h r in omega arith

pub emptied-lighter : (h : Hedge) (k : Conj) → hedges (put_c (emptied h) k) ≤ hedges k
emptied-lighter h [] = omega arith
emptied-lighter h (eqn l r ∷ k) = let z = emptied-lighter h k in omega arith
emptied-lighter h (mem g R ∷ k) = let y = odd-none _ _ (emptied-shorter h g) in let z = emptied-lighter h k in omega arith
