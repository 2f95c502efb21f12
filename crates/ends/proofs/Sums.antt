-- All that is counted and weighed is a sum over literals, and over what stands in a row; and what is said of a variable that stands nowhere.
use Prim.Native.Nat.{ℕ, zero, suc, ◌+◌, ◌≤◌, ◌<◌}
use mathlib.Core.Path.{◌≡◌, refl, ap}
use mathlib.Core.Bool.{Bool, true, false, ◌&&◌, ◌||◌}
use mathlib.Core.List.{[], ◌∷◌, ◌++◌}
use native.Mathlib.Omega.{arith}
use lib.Dec.{T}
use Rattle.language.specs.Trees.{Functor, symbol, fvar, Hedge, ε, tvar, hvar, node, Expr, eps, cat, alt, star, over, Literal, eqn, mem, Conj, ◌⧺◌, Var, tv, hv, fv, eq_v, in_functor, holds, in_literal, in_conj}
use Rattle.rules.specs.Looks.{empty}
use Rattle.rules.proofs.Tests.{neither}
use Rattle.rules.specs.Solved.{given, is_term, is_functor, variable}
use Rattle.ends.specs.Measure.{one, occ_f, occ, occ_l, occ_c, is, own, own_c, places, constructors, odd, odd', hedges, rest_l, rest}

-- ---- in a row

pub occ-⧺ : (v : Var) (h k : Hedge) → occ v (h ⧺ k) ≡ occ v h + occ v k
occ-⧺ v ε k = omega arith
occ-⧺ v (tvar x r) k = let z = occ-⧺ v r k in omega arith
occ-⧺ v (hvar p r) k = let z = occ-⧺ v r k in omega arith
occ-⧺ v (node f c r) k = let z = occ-⧺ v r k in omega arith

pub places-⧺ : (h k : Hedge) → places (h ⧺ k) ≡ places h + places k
places-⧺ ε k = omega arith
places-⧺ (tvar x r) k = let z = places-⧺ r k in omega arith
places-⧺ (hvar p r) k = let z = places-⧺ r k in omega arith
places-⧺ (node f c r) k = let z = places-⧺ r k in omega arith

pub occ-++ : (v : Var) (c d : Conj) → occ_c v (c ++ d) ≡ occ_c v c + occ_c v d
occ-++ v [] d = omega arith
occ-++ v (l ∷ c) d = let z = occ-++ v c d in omega arith

pub own-++ : (v : Var) (c d : Conj) → own_c v (c ++ d) ≡ own_c v c + own_c v d
own-++ v [] d = omega arith
own-++ v (l ∷ c) d = let z = own-++ v c d in omega arith

pub hedges-++ : (c d : Conj) → hedges (c ++ d) ≡ hedges c + hedges d
hedges-++ [] d = omega arith
hedges-++ (l ∷ c) d = let z = hedges-++ c d in omega arith

pub rest-++ : (c d : Conj) → rest (c ++ d) ≡ rest c + rest d
rest-++ [] d = omega arith
rest-++ (l ∷ c) d = let z = rest-++ c d in omega arith

-- ---- weights

pub odd-on : (m n : ℕ) → m < n → odd m < odd n
odd-on zero zero h = omega arith
odd-on zero (suc n) h = omega arith
odd-on (suc m) zero h = omega arith
odd-on (suc m) (suc n) h = omega arith

-- apart they weigh less
pub odd-apart : (m n : ℕ) → 0 < m → 0 < n → odd m + odd n < odd (m + n)
odd-apart zero n h k = omega arith
odd-apart (suc m) zero h k = omega arith
odd-apart (suc m) (suc n) h k = let z = ap odd (let y : suc m + suc n ≡ suc (m + suc n) = omega arith in y) in omega arith

pub odd-none : (m n : ℕ) → m ≤ n → odd m ≤ odd n
odd-none zero n h = omega arith
odd-none (suc m) zero h = omega arith
odd-none (suc m) (suc n) h = omega arith

-- the weight of an equation, in numbers
pub odd'-some : (n : ℕ) → 0 < n → odd' n + 1 ≡ n + n
odd'-some zero h = omega arith
odd'-some (suc n) h = omega arith

pub odd'-few : (n : ℕ) → (1 ≤ odd' n) × (odd' n ≤ n + n + 1)
odd'-few zero = (omega arith, omega arith)
odd'-few (suc n) = (omega arith, omega arith)

pub expr-weighs : (R : Expr) → 0 < constructors R
expr-weighs eps = omega arith
expr-weighs (cat a b) = omega arith
expr-weighs (alt a b) = omega arith
expr-weighs (star a) = omega arith
expr-weighs (over f a) = omega arith

pub literal-weighs : (l : Literal) → 0 < rest_l l
literal-weighs (eqn l r) = let z = (odd'-few (places l + places r)).0 in omega arith
literal-weighs (mem h R) = expr-weighs R

-- what is not empty has a place
pub places-some : (h : Hedge) → empty h ≡ false → 0 < places h
places-some ε e = absurd (let z : ◌≡◌ {A = ℕ} 0 1 = cc in omega arith)
places-some (tvar x r) e = omega arith
places-some (hvar p r) e = omega arith
places-some (node f c r) e = omega arith

-- ---- what is held is counted

pub one_of : (b : Bool) → T b → one b ≡ 1
one_of true t = refl
one_of false t = absurd t

pub none_of : (b : Bool) → b ≡ false → one b ≡ 0
none_of true e = absurd (let z : ◌≡◌ {A = ℕ} 0 1 = cc in omega arith)
none_of false e = refl

counted : (a b : Bool) (m n : ℕ) → one a ≤ m → one b ≤ n → one (a || b) ≤ m + n
counted true b m n p q = omega arith
counted false b m n p q = omega arith

functor-counted : (v : Var) (f : Functor) → one (in_functor v f) ≤ occ_f v f
functor-counted v (symbol f) = omega arith
functor-counted v (fvar X) = omega arith

functor-not-held : (v : Var) (f : Functor) → in_functor v f ≡ false → occ_f v f ≡ 0
functor-not-held v (symbol f) e = refl
functor-not-held v (fvar X) e = none_of (eq_v v (fv X)) e

pub holds-counted : (v : Var) (h : Hedge) → one (holds v h) ≤ occ v h
holds-counted v ε = omega arith
holds-counted v (tvar x r) = counted (eq_v v (tv x)) (holds v r) _ _ (omega arith) (holds-counted v r)
holds-counted v (hvar p r) = counted (eq_v v (hv p)) (holds v r) _ _ (omega arith) (holds-counted v r)
holds-counted v (node f c r) =
    let z = counted (in_functor v f || holds v c) (holds v r) _ _ (counted (in_functor v f) (holds v c) _ _ (functor-counted v f) (holds-counted v c)) (holds-counted v r) in omega arith

pub literal-counted : (v : Var) (l : Literal) → one (in_literal v l) ≤ occ_l v l
literal-counted v (eqn l r) = counted (holds v l) (holds v r) _ _ (holds-counted v l) (holds-counted v r)
literal-counted v (mem h R) = holds-counted v h

pub in-counted : (v : Var) (k : Conj) → one (in_conj v k) ≤ occ_c v k
in-counted v [] = omega arith
in-counted v (l ∷ k) = counted (in_literal v l) (in_conj v k) _ _ (literal-counted v l) (in-counted v k)

-- and what is not held is not counted
pub not-held : (v : Var) (h : Hedge) → holds v h ≡ false → occ v h ≡ 0
not-held v ε e = refl
not-held v (tvar x r) e = let (a, b) = neither (eq_v v (tv x)) (holds v r) e in let y = none_of (eq_v v (tv x)) a in let z = not-held v r b in omega arith
not-held v (hvar p r) e = let (a, b) = neither (eq_v v (hv p)) (holds v r) e in let y = none_of (eq_v v (hv p)) a in let z = not-held v r b in omega arith
not-held v (node f c r) e =
    let (b, d) = neither (in_functor v f || holds v c) (holds v r) e in
    let (a, c₁) = neither (in_functor v f) (holds v c) b in
    let x = functor-not-held v f a in let y = not-held v c c₁ in let z = not-held v r d in omega arith

-- ---- a side that a variable is, alone, has it once

pub given_is : (v w : Var) (b : Bool) → is v (given b w) ≤ one (eq_v v w)
given_is v w true = omega arith
given_is v w false = omega arith

pub variable-once : (v : Var) (l r : Hedge) → is v (variable l r) ≤ occ v l
variable-once v ε r = omega arith
variable-once v (tvar x s) r = let z = given_is v (tv x) (empty s && is_term r) in omega arith
variable-once v (hvar p s) r = let z = given_is v (hv p) (empty s) in omega arith
variable-once v (node (symbol f) c s) r = omega arith
variable-once v (node (fvar X) c s) r = let z = given_is v (fv X) (empty c && empty s && is_functor r) in omega arith

pub own-once : (v : Var) (l : Literal) → own v l ≤ occ_l v l
own-once v (eqn l r) = let y = variable-once v l r in let z = variable-once v r l in omega arith
own-once v (mem h R) = omega arith

pub owns-once : (v : Var) (k : Conj) → own_c v k ≤ occ_c v k
owns-once v [] = omega arith
owns-once v (l ∷ k) = let y = own-once v l in let z = owns-once v k in omega arith

-- ---- the sides swapped

pub own-swapped : (v : Var) (l r : Hedge) → own v (eqn l r) ≡ own v (eqn r l)
own-swapped v l r = omega arith

pub occ-swapped : (v : Var) (l r : Hedge) → occ_l v (eqn l r) ≡ occ_l v (eqn r l)
occ-swapped v l r = omega arith

pub rest-swapped : (l r : Hedge) → rest_l (eqn l r) ≡ rest_l (eqn r l)
rest-swapped l r = ap odd' (let z : places l + places r ≡ places r + places l = omega arith in z)
