-- How often a word stands among others, and a variable in trees.
use mathlib.Core.Path.{◌≡◌, refl, sym, ap, ◌∙◌, subst}
use mathlib.Core.Bool.{Bool, true, false, not, ◌||◌, false≢true}
use mathlib.Core.List.{List, [], ◌∷◌, ◌++◌}
use mathlib.Core.Logic.{inl, inr}
use Prim.Native.Nat.{ℕ, suc, ◌+◌, ◌≤◌}
use native.Mathlib.Omega.{arith}
use lib.Dec.{eqb, ltb}
use lib.ListN.{length}
use borrow.Author.Tests.{lt-ltb, le-ltb, eq-eqb, ne_eqb}
use Rattle.language.specs.Limits.{desk}
use Rattle.language.specs.Kinds.{pick}
use Rattle.language.specs.Trees.{Hedge, ε, tvar, hvar, node, Expr, eps, cat, alt, star, over, Literal, eqn, mem, Conj, Var, tv, hv, eq_v, in_functor, holds, in_literal, in_conj}
use Rattle.language.specs.Writing.{hedge_words, expr_words, literal_words, conj_words}
use Rattle.language.specs.Fine.{fine_hedge, fine_expr, fine_literal, fine_conj}
use Rattle.views.specs.Variables.{variable_word, fine_var}
use Rattle.views.proofs.Members.{or_assoc, at-term, at-run, at-functor, other}
use Rattle.counts.specs.Counts.{count_hedge, count_literal, count_conj}
use Rattle.counts.specs.Tables.{times}

pub times-append : (x : ℕ) (a b : List ℕ) → times x (a ++ b) ≡ times x a + times x b
times-append x [] b = omega arith
times-append x (y ∷ a) b = let h = times-append x a b in omega arith

-- no word stands more often than there are words
pub times-short : (x : ℕ) (ws : List ℕ) → times x ws ≤ length ws
times-short x [] = omega arith
times-short x (y ∷ ws) = let h = times-short x ws in let b = one (eqb y x) in omega arith
  where
    one : (b : Bool) → pick b 1 0 ≤ 1
    one true = omega arith
    one false = omega arith

-- ---- the words of trees

one_more : {b c : Bool} {m n : ℕ} → b ≡ c → m ≡ n → pick b 1 0 + m ≡ pick c 1 0 + n
one_more {b} {c} {m} {n} e d = ap (λ z. pick z 1 0 + m) e ∙ ap (λ z. pick c 1 0 + z) d

none_more : {b : Bool} {m n : ℕ} → b ≡ false → m ≡ n → pick b 1 0 + m ≡ n
none_more {b} {m} {n} e d = ap (λ z. pick z 1 0 + m) e ∙ (let z : 0 + m ≡ n = omega arith in z)

module _ (v : Var) (fine : fine_var desk v) where
  far : (x : ℕ) → 5000 ≤ x → eqb x (variable_word v) ≡ false
  far x h = other v x fine (inr (inr h))

  two : (a b : List ℕ) {m n : ℕ} → times (variable_word v) a ≡ m → times (variable_word v) b ≡ n → times (variable_word v) (a ++ b) ≡ m + n
  two a b e d = let h = times-append (variable_word v) a b in omega arith

  pub times-hedge : (h : Hedge) → fine_hedge desk h → times (variable_word v) (hedge_words h) ≡ count_hedge v h
  times-hedge ε f = none_more (other v 0 fine (inl (omega arith))) refl
  times-hedge (tvar x r) f = one_more (at-term v x fine f.0) (times-hedge r f.1)
  times-hedge (hvar p r) f = one_more (at-run v p fine f.0) (times-hedge r f.1)
  times-hedge (node g c r) f = one_more (at-functor v g fine f.0) (two (hedge_words c) (hedge_words r) (times-hedge c f.1) (times-hedge r f.2))

  times-expr : (R : Expr) → fine_expr desk R → times (variable_word v) (expr_words R) ≡ 0
  times-expr eps f = none_more (far 7000 (omega arith)) refl
  times-expr (cat a b) f = none_more (far 7001 (omega arith)) (two (expr_words a) (expr_words b) (times-expr a f.0) (times-expr b f.1))
  times-expr (alt a b) f = none_more (far 7002 (omega arith)) (two (expr_words a) (expr_words b) (times-expr a f.0) (times-expr b f.1))
  times-expr (star a) f = none_more (far 7003 (omega arith)) (times-expr a f)
  times-expr (over g a) f = none_more (other v (3000 + g.0) fine (inr (inl (omega arith, omega arith)))) (times-expr a f.1)

  pub times-literal : (l : Literal) → fine_literal desk l → times (variable_word v) (literal_words l) ≡ count_literal v l
  times-literal (eqn l r) f = none_more (far 5000 (omega arith)) (two (hedge_words l) (hedge_words r) (times-hedge l f.0) (times-hedge r f.1))
  times-literal (mem h R) f =
      none_more (far 6000 (omega arith)) (two (hedge_words h) (expr_words R) (times-hedge h f.0) (times-expr R f.1) ∙ (let z : count_hedge v h + 0 ≡ count_hedge v h = omega arith in z))

  pub times-conj : (k : Conj) → fine_conj desk k → times (variable_word v) (conj_words k) ≡ count_conj v k
  times-conj [] f = refl
  times-conj (l ∷ k) f = two (literal_words l) (conj_words k) (times-literal l f.0) (times-conj k f.1)

-- ---- a variable stands in a tree exactly if its count is not 0

pub count-append : (v : Var) (a b : Conj) → count_conj v (a ++ b) ≡ count_conj v a + count_conj v b
count-append v [] b = omega arith
count-append v (l ∷ a) b = let h = count-append v a b in omega arith

-- b says whether a number is not 0
pub data Some : Bool → ℕ → Type 0 where
  none : {n : ℕ} → n ≡ 0 → Some false n
  more : {n : ℕ} → 1 ≤ n → Some true n

some_one : (b : Bool) → Some b (pick b 1 0)
some_one true = more {n = 1} (omega arith)
some_one false = none refl

pub some_or : {a b : Bool} {m n : ℕ} → Some a m → Some b n → Some (a || b) (m + n)
some_or {m} {n} (more p) q = more {n = m + n} (omega arith)
some_or {m} {n} (none p) (more q) = more {n = m + n} (omega arith)
some_or {m} {n} (none p) (none q) = none {n = m + n} (omega arith)

pub some-hedge : (v : Var) (h : Hedge) → Some (holds v h) (count_hedge v h)
some-hedge v ε = none refl
some-hedge v (tvar x r) = some_or (some_one (eq_v v (tv x))) (some-hedge v r)
some-hedge v (hvar p r) = some_or (some_one (eq_v v (hv p))) (some-hedge v r)
some-hedge v (node f c r) =
    subst (λ b. Some b (pick (in_functor v f) 1 0 + (count_hedge v c + count_hedge v r))) (or_assoc (in_functor v f) (holds v c) (holds v r))
    (some_or (some_one (in_functor v f)) (some_or (some-hedge v c) (some-hedge v r)))

pub some-literal : (v : Var) (l : Literal) → Some (in_literal v l) (count_literal v l)
some-literal v (eqn l r) = some_or (some-hedge v l) (some-hedge v r)
some-literal v (mem h R) = some-hedge v h

pub some-conj : (v : Var) (k : Conj) → Some (in_conj v k) (count_conj v k)
some-conj v [] = none refl
some-conj v (l ∷ k) = some_or (some-literal v l) (some-conj v k)

pub none_of : {b : Bool} {n : ℕ} → Some b n → b ≡ false → n ≡ 0
none_of (more p) e = absurd (false≢true (sym e))
none_of (none p) e = p

-- beside one place of its own, it stands elsewhere exactly if it is counted more than once, and nowhere else exactly if once
pub more-than-one : {b : Bool} {n : ℕ} (m : ℕ) → Some b n → m ≡ suc n → ltb 1 m ≡ b
more-than-one m (more p) e = lt-ltb 1 m (omega arith)
more-than-one m (none p) e = le-ltb 1 m (omega arith)

pub just-one : {b : Bool} {n : ℕ} (m : ℕ) → Some b n → m ≡ suc n → eqb m 1 ≡ not b
just-one m (more p) e = ne_eqb m 1 (λ z. absurd (omega arith))
just-one m (none p) e = eq-eqb m 1 (omega arith)
