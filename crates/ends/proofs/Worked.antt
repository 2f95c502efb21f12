-- The measure falling, computed by the definitions.
use Prim.Native.Nat.{ℕ}
use mathlib.Core.Path.{◌≡◌, refl}
use mathlib.Core.List.{[], ◌∷◌}
use Rattle.language.specs.Trees.{ε, Expr, cat, star, over, eqn, mem, is_unordered, any_unordered, ◌⧺◌, tvar, tv, hv}
use Rattle.rules.specs.Walk.{reached, long_walk, shared, common_hedge, common_term}
use Rattle.rules.specs.Rules.{◌>>=◌, check}
use Rattle.rules.specs.Table.{four_ordered, a, b, f, g, x, p, aᴱ, bᴱ, fᴱ}
use Rattle.ends.specs.Unlimited.{free_step}
use Rattle.ends.specs.Worked.{Measured, measures}

-- g(R)
abbrev gᴱ : Expr → Expr
gᴱ R = over (record { 0 = 3 }) R

abbrev at : ℕ → ℕ → ℕ → Measured
at u h r = record { unsettled_variables = u; hedges_weight = h; rest_weight = r }

-- P9: "p in f(a*)·b*, p = (f(a,a),b)", by E2, M2, M4, M11, M2, M4, the fold, M11, R2, M11 and R2
pub P9-falls : measures 20 four_ordered (hv (record { 0 = 0 }) ∷ []) (mem p (cat (fᴱ (star aᴱ)) (star bᴱ)) ∷ eqn p (f (a ⧺ a) ⧺ b) ∷ [])
    ≡ at 1 1 17 ∷ at 0 7 17 ∷ at 0 6 16 ∷ at 0 6 15 ∷ at 0 4 14 ∷ at 0 3 16 ∷ at 0 3 15 ∷ at 0 2 13 ∷ at 0 1 12 ∷ at 0 1 11 ∷ at 0 0 10 ∷ at 0 0 9 ∷ []
unfolding is_unordered any_unordered ◌>>=◌ check reached long_walk shared common_hedge common_term free_step
P9-falls = refl

-- 01's example, in which the paper's own count rises: "x = g(y), x in g(h), y in h", by E1, M11 and the fold
pub rises-there : measures 20 four_ordered (tv (record { 0 = 0 }) ∷ tv (record { 0 = 1 }) ∷ [])
    (eqn x (g (tvar (record { 0 = 1 }) ε)) ∷ mem x (gᴱ aᴱ) ∷ mem (tvar (record { 0 = 1 }) ε) aᴱ ∷ []) ≡ at 2 2 10 ∷ at 1 4 10 ∷ at 1 2 9 ∷ at 1 1 7 ∷ []
unfolding is_unordered any_unordered ◌>>=◌ check reached long_walk shared common_hedge common_term free_step
rises-there = refl
