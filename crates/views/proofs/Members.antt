-- A variable's word stands among a tree's words exactly if the variable stands in the tree.
use mathlib.Core.Path.{◌≡◌, refl, sym, ap, ◌∙◌}
use mathlib.Core.Bool.{Bool, true, false, ◌||◌, or-false}
use mathlib.Core.List.{List, [], ◌∷◌, ◌++◌}
use mathlib.Core.Logic.{◌⊎◌, inl, inr}
use Prim.Native.Nat.{ℕ, ◌+◌, ◌<◌, ◌≤◌}
use native.Mathlib.Decide.{ℕ_discrete}
use native.Mathlib.Omega.{arith}
use lib.Dec.{eqb}
use lib.ListN.{take, drop}
use borrow.Author.Tests.{eq-eqb, ne_eqb}
use Rattle.language.specs.declared.TermVar.{TermVar}
use Rattle.language.specs.declared.HedgeVar.{HedgeVar}
use Rattle.language.specs.Limits.{desk}
use Rattle.language.specs.Trees.{Functor, symbol, fvar, Hedge, ε, tvar, hvar, node, Expr, eps, cat, alt, star, over, Literal, eqn, mem, Conj, Var, tv, hv, fv, eq_v, in_functor, holds, in_literal, in_conj}
use Rattle.language.specs.Writing.{functor_word, hedge_words, expr_words, literal_words, conj_words}
use Rattle.language.specs.Fine.{fine_functor, fine_hedge, fine_expr, fine_literal, fine_conj}
use Rattle.views.specs.Looks.{body_words}
use Rattle.words.specs.Spans.{member}
use Rattle.views.specs.Views.{Sees}
use Rattle.views.specs.declared.View.{View}
use Rattle.views.specs.Variables.{variable_word, fine_var}

-- ---- tests

pub or_assoc : (p q r : Bool) → (p || (q || r)) ≡ ((p || q) || r)
or_assoc true q r = refl
or_assoc false q r = refl

pub both-or : {p q r s : Bool} → p ≡ q → r ≡ s → (p || r) ≡ (q || s)
both-or {p} {q} {r} {s} e d = ap (λ t. t || r) e ∙ ap (λ t. q || t) d

pub eqb-sym : (m n : ℕ) → eqb m n ≡ eqb n m
eqb-sym m n = go (ℕ_discrete m n)
  where
    go : Dec (m ≡ n) → eqb m n ≡ eqb n m
    go (yes e) = eq-eqb m n e ∙ sym (eq-eqb n m (sym e))
    go (no e) = ne_eqb m n e ∙ sym (ne_eqb n m (λ z. e (sym z)))

-- the same number behind the same base
pub eqb-base : (b m n : ℕ) → eqb (b + m) (b + n) ≡ eqb m n
eqb-base b m n = go (ℕ_discrete m n)
  where
    go : Dec (m ≡ n) → eqb (b + m) (b + n) ≡ eqb m n
    go (yes e) = eq-eqb (b + m) (b + n) (omega arith) ∙ sym (eq-eqb m n e)
    go (no e) = ne_eqb (b + m) (b + n) (λ z. e (omega arith)) ∙ sym (ne_eqb m n e)

pub member-append : (x : ℕ) (a b : List ℕ) → member x (a ++ b) ≡ (member x a || member x b)
member-append x [] b = refl
member-append x (y ∷ a) b = ap (λ t. eqb y x || t) (member-append x a b) ∙ or_assoc (eqb y x) (member x a) (member x b)

-- ---- one word

at_base : (b m n : ℕ) → eqb (b + n) (b + m) ≡ eqb m n
at_base b m n = eqb-base b n m ∙ eqb-sym n m

pub at-term : (v : Var) (x : TermVar) → fine_var desk v → x.0 < desk.each → eqb (1000 + x.0) (variable_word v) ≡ eq_v v (tv x)
at-term (tv y) x f g = at_base 1000 y.0 x.0
at-term (hv q) x f g = ne_eqb (1000 + x.0) (2000 + q.0) (omega arith)
at-term (fv Y) x f g = ne_eqb (1000 + x.0) (4000 + Y.0) (omega arith)

pub at-run : (v : Var) (p : HedgeVar) → fine_var desk v → p.0 < desk.each → eqb (2000 + p.0) (variable_word v) ≡ eq_v v (hv p)
at-run (tv y) p f g = ne_eqb (2000 + p.0) (1000 + y.0) (omega arith)
at-run (hv q) p f g = at_base 2000 q.0 p.0
at-run (fv Y) p f g = ne_eqb (2000 + p.0) (4000 + Y.0) (omega arith)

pub at-functor : (v : Var) (F : Functor) → fine_var desk v → fine_functor desk F → eqb (functor_word F) (variable_word v) ≡ in_functor v F
at-functor (tv y) (symbol n) f g = ne_eqb (3000 + n.0) (1000 + y.0) (omega arith)
at-functor (tv y) (fvar X) f g = ne_eqb (4000 + X.0) (1000 + y.0) (omega arith)
at-functor (hv q) (symbol n) f g = ne_eqb (3000 + n.0) (2000 + q.0) (omega arith)
at-functor (hv q) (fvar X) f g = ne_eqb (4000 + X.0) (2000 + q.0) (omega arith)
at-functor (fv Y) (symbol n) f g = ne_eqb (3000 + n.0) (4000 + Y.0) (omega arith)
at-functor (fv Y) (fvar X) f g = at_base 4000 Y.0 X.0

-- a word that is no variable's
pub other : (v : Var) (x : ℕ) → fine_var desk v → (x < 1000) ⊎ ((3000 ≤ x) × (x < 4000)) ⊎ (5000 ≤ x) → eqb x (variable_word v) ≡ false
other (tv y) x f (inl o) = ne_eqb x (1000 + y.0) (omega arith)
other (tv y) x f (inr (inl o)) = ne_eqb x (1000 + y.0) (omega arith)
other (tv y) x f (inr (inr o)) = ne_eqb x (1000 + y.0) (omega arith)
other (hv q) x f (inl o) = ne_eqb x (2000 + q.0) (omega arith)
other (hv q) x f (inr (inl o)) = ne_eqb x (2000 + q.0) (omega arith)
other (hv q) x f (inr (inr o)) = ne_eqb x (2000 + q.0) (omega arith)
other (fv Y) x f (inl o) = ne_eqb x (4000 + Y.0) (omega arith)
other (fv Y) x f (inr (inl o)) = ne_eqb x (4000 + Y.0) (omega arith)
other (fv Y) x f (inr (inr o)) = ne_eqb x (4000 + Y.0) (omega arith)

-- ---- trees

module _ (v : Var) (fine : fine_var desk v) where
  far : (x : ℕ) → 5000 ≤ x → eqb x (variable_word v) ≡ false
  far x h = other v x fine (inr (inr h))

  two : (a b : List ℕ) {p q : Bool} → member (variable_word v) a ≡ p → member (variable_word v) b ≡ q → member (variable_word v) (a ++ b) ≡ (p || q)
  two a b e d = member-append (variable_word v) a b ∙ both-or e d

  pub member-hedge : (h : Hedge) → fine_hedge desk h → member (variable_word v) (hedge_words h) ≡ holds v h
  member-hedge ε f = both-or (other v 0 fine (inl (omega arith))) refl
  member-hedge (tvar x r) f = both-or (at-term v x fine f.0) (member-hedge r f.1)
  member-hedge (hvar p r) f = both-or (at-run v p fine f.0) (member-hedge r f.1)
  member-hedge (node g c r) f =
      both-or (at-functor v g fine f.0) (two (hedge_words c) (hedge_words r) (member-hedge c f.1) (member-hedge r f.2))
      ∙ or_assoc (in_functor v g) (holds v c) (holds v r)

  -- the same without the 0 at the end
  pub member-body : (h : Hedge) → fine_hedge desk h → member (variable_word v) (body_words h) ≡ holds v h
  member-body ε f = refl
  member-body (tvar x r) f = both-or (at-term v x fine f.0) (member-body r f.1)
  member-body (hvar p r) f = both-or (at-run v p fine f.0) (member-body r f.1)
  member-body (node g c r) f =
      both-or (at-functor v g fine f.0) (two (hedge_words c) (body_words r) (member-hedge c f.1) (member-body r f.2))
      ∙ or_assoc (in_functor v g) (holds v c) (holds v r)

  member-expr : (R : Expr) → fine_expr desk R → member (variable_word v) (expr_words R) ≡ false
  member-expr eps f = both-or (far 7000 (omega arith)) refl
  member-expr (cat a b) f = both-or (far 7001 (omega arith)) (two (expr_words a) (expr_words b) (member-expr a f.0) (member-expr b f.1))
  member-expr (alt a b) f = both-or (far 7002 (omega arith)) (two (expr_words a) (expr_words b) (member-expr a f.0) (member-expr b f.1))
  member-expr (star a) f = both-or (far 7003 (omega arith)) (member-expr a f)
  member-expr (over g a) f = both-or (other v (3000 + g.0) fine (inr (inl (omega arith, omega arith)))) (member-expr a f.1)

  pub member-literal : (l : Literal) → fine_literal desk l → member (variable_word v) (literal_words l) ≡ in_literal v l
  member-literal (eqn l r) f = both-or (far 5000 (omega arith)) (two (hedge_words l) (hedge_words r) (member-hedge l f.0) (member-hedge r f.1))
  member-literal (mem h R) f =
      both-or (far 6000 (omega arith)) (two (hedge_words h) (expr_words R) (member-hedge h f.0) (member-expr R f.1) ∙ or-false (holds v h))

  pub member-conj : (k : Conj) → fine_conj desk k → member (variable_word v) (conj_words k) ≡ in_conj v k
  member-conj [] f = refl
  member-conj (l ∷ k) f = two (literal_words l) (conj_words k) (member-literal l f.0) (member-conj k f.1)

  pub in-append : (a b : Conj) → in_conj v (a ++ b) ≡ (in_conj v a || in_conj v b)
  in-append [] b = refl
  in-append (l ∷ a) b = ap (λ t. in_literal v l || t) (in-append a b) ∙ or_assoc (in_literal v l) (in_conj v a) (in_conj v b)

  -- elsewhere: in the words before a literal or behind it
  outside : (k : List ℕ) (at end : ℕ) (before behind : Conj) → take at k ≡ conj_words before → drop end k ≡ conj_words behind → fine_conj desk before → fine_conj desk behind
      → (member (variable_word v) (take at k) || member (variable_word v) (drop end k)) ≡ in_conj v (before ++ behind)
  outside k at end before behind e d f g =
      both-or (ap (member (variable_word v)) e ∙ member-conj before f) (ap (member (variable_word v)) d ∙ member-conj behind g) ∙ sym (in-append before behind)

  pub elsewhere-sees : {k : List ℕ} {u : View} {before : Conj} {l r : Hedge} {behind : Conj} → Sees k u before l r behind
      → (member (variable_word v) (take u.at k) || member (variable_word v) (drop u.end k)) ≡ in_conj v (before ++ behind)
  elsewhere-sees {k} {u} {before} {l} {r} {behind} s = outside k u.at u.end before behind s.start s.finish s.fine_before s.fine_behind
