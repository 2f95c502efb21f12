-- How often a variable stands in a tree: the count that is kept beside the first waiting conjunction.
use Rattle.std.specs.Prelude.{ℕ, ◌+◌, [], ◌∷◌}
use Rattle.language.specs.Kinds.{pick}
use Rattle.language.specs.Trees.{Hedge, ε, tvar, hvar, node, Literal, eqn, mem, Conj, Var, tv, hv, eq_v, in_functor}

abbrev pub count_hedge : Var → Hedge → ℕ
count_hedge v ε = 0
count_hedge v (tvar x r) = pick (eq_v v (tv x)) 1 0 + count_hedge v r
count_hedge v (hvar p r) = pick (eq_v v (hv p)) 1 0 + count_hedge v r
count_hedge v (node f c r) = pick (in_functor v f) 1 0 + (count_hedge v c + count_hedge v r)

abbrev pub count_literal : Var → Literal → ℕ
count_literal v (eqn l r) = count_hedge v l + count_hedge v r
count_literal v (mem h R) = count_hedge v h

abbrev pub count_conj : Var → Conj → ℕ
count_conj v [] = 0
count_conj v (l ∷ k) = count_literal v l + count_conj v k
