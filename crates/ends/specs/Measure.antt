-- What falls with every step: how many variables are not settled, then the weight of the memberships' hedges, then that of expressions and equations.
use Rattle.std.specs.Prelude.{ℕ, zero, suc, ◌+◌, ◌≤◌, ◌<◌, ◌⊎◌, Bool, true, false, ◌&&◌, not, List, [], ◌∷◌, eqb}
use Rattle.std.proofs.Math.Option.{Option, none, some}
use Rattle.language.specs.Trees.{Functor, symbol, fvar, Hedge, ε, tvar, hvar, node, Expr, eps, cat, alt, star, over, Literal, eqn, mem, Conj, Var, tv, hv, fv, eq_v}
use Rattle.rules.specs.Solved.{variable}

abbrev pub one : Bool → ℕ
one true = 1
one false = 0

-- ---- where a variable stands

-- how often it stands in a hedge, in both sides of equations, in the left sides of memberships
abbrev pub occ_f : Var → Functor → ℕ
occ_f v (symbol f) = 0
occ_f v (fvar X) = one (eq_v v (fv X))

abbrev pub occ : Var → Hedge → ℕ
occ v ε = 0
occ v (tvar x r) = one (eq_v v (tv x)) + occ v r
occ v (hvar p r) = one (eq_v v (hv p)) + occ v r
occ v (node f c r) = occ_f v f + (occ v c + occ v r)

abbrev pub occ_l : Var → Literal → ℕ
occ_l v (eqn l r) = occ v l + occ v r
occ_l v (mem h R) = occ v h

abbrev pub occ_c : Var → Conj → ℕ
occ_c v [] = 0
occ_c v (l ∷ k) = occ_l v l + occ_c v k

-- how many sides of equations it is, alone, against what a solved variable can stand against
abbrev pub is : Var → Option Var → ℕ
is v none = 0
is v (some w) = one (eq_v v w)

abbrev pub own : Var → Literal → ℕ
own v (eqn l r) = is v (variable l r) + is v (variable r l)
own v (mem h R) = 0

abbrev pub own_c : Var → Conj → ℕ
own_c v [] = 0
own_c v (l ∷ k) = own v l + own_c v k

-- it stands once, and there it is a side of an equation, alone
abbrev pub settled : Conj → Var → Bool
settled k v = eqb (occ_c v k) 1 && eqb (own_c v k) 1

-- how many of these are not settled
abbrev pub unsettled : List Var → Conj → ℕ
unsettled [] k = 0
unsettled (v ∷ vs) k = one (not (settled k v)) + unsettled vs k

-- ---- weights

-- how many variables and functors there are
abbrev pub places : Hedge → ℕ
places ε = 0
places (tvar x r) = suc (places r)
places (hvar p r) = suc (places r)
places (node f c r) = suc (places c + places r)

abbrev pub constructors : Expr → ℕ
constructors eps = 1
constructors (cat a b) = suc (constructors a + constructors b)
constructors (alt a b) = suc (constructors a + constructors b)
constructors (star a) = suc (constructors a)
constructors (over f a) = suc (constructors a)

-- the n-th odd number, and nothing for 0: so two hedges weigh less apart than in a row
abbrev pub odd : ℕ → ℕ
odd zero = 0
odd (suc n) = suc (n + n)

-- the same for an equation, which weighs something even where both sides are empty
abbrev pub odd' : ℕ → ℕ
odd' zero = 1
odd' (suc n) = suc (n + n)

-- the memberships' hedges
abbrev pub hedges_l : Literal → ℕ
hedges_l (eqn l r) = 0
hedges_l (mem h R) = odd (places h)

abbrev pub hedges : Conj → ℕ
hedges [] = 0
hedges (l ∷ k) = hedges_l l + hedges k

-- the memberships' expressions, and the equations
abbrev pub rest_l : Literal → ℕ
rest_l (eqn l r) = odd' (places l + places r)
rest_l (mem h R) = constructors R

abbrev pub rest : Conj → ℕ
rest [] = 0
rest (l ∷ k) = rest_l l + rest k

-- ---- less

-- fewer variables that are not settled; or no more, and less weight
abbrev pub Lighter : Conj → Conj → Type 0
Lighter j k = (hedges j < hedges k) ⊎ ((hedges j ≤ hedges k) × (rest j < rest k))

abbrev pub Below : List Var → Conj → Conj → Type 0
Below vs j k = (unsettled vs j < unsettled vs k) ⊎ ((unsettled vs j ≤ unsettled vs k) × Lighter j k)
