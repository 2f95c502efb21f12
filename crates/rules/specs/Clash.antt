-- The last rule: one variable, alone, has two memberships, and no term (or hedge, for a hedge variable) lies in both.
use Rattle.std.specs.Prelude.{ℕ, Bool, true, false, ◌||◌, List, [], ◌∷◌}
use Rattle.std.proofs.Math.Option.{none, some}
use Rattle.language.specs.declared.Sym.{Sym}
use Rattle.language.specs.declared.Refusal.TheVariants.{LongWalk}
use Rattle.language.specs.Trees.{Hedge, Expr, eps, cat, alt, star, over, eqn, mem, Conj, Var, tv, hv, fv, eq_v}
use Rattle.rules.specs.Solved.{lone_var}
use Rattle.rules.specs.Reply.{Reply, nothing, results, stops, or_next, PairRule}
use Rattle.rules.specs.Walk.{common_hedge, common_term, long_walk}

-- Which symbols are unordered; and none is.
abbrev pub Unordered : Type 0
Unordered = Sym → Bool

abbrev pub all_ordered : Unordered
all_ordered f = false

-- an unordered symbol is mentioned
abbrev pub mentions : Unordered → Expr → Bool
mentions u eps = false
mentions u (cat a b) = mentions u a || mentions u b
mentions u (alt a b) = mentions u a || mentions u b
mentions u (star a) = mentions u a
mentions u (over f a) = u f || mentions u a

-- a term lies in both, for a term variable; a hedge, for a hedge variable
abbrev pub agree : Var → Expr → Expr → Bool
agree (tv x) R S = common_term R S
agree (hv p) R S = common_hedge R S
agree (fv X) R S = true

-- the hedge is that variable and nothing else
abbrev pub is_lone : Var → Hedge → Bool
is_lone v h = elim (lone_var h) [ none ↦ false | some w ↦ eq_v v w ]

-- v in R and v in S: "Pairs that mention an unordered symbol are passed over", and of the others each is walked to its end, so that 21 does not
-- wait on what the walk finds. Where nothing lies in both "the conjunction is dropped".
abbrev pub try_pair : ℕ → Unordered → Var → Expr → Expr → Reply (List Conj)
try_pair limit u v R S =
    elim (mentions u R || mentions u S) [
      | true ↦ nothing
      | false ↦
          elim (long_walk limit R S) [
            | true ↦ stops LongWalk
            | false ↦ elim (agree v R S) [ true ↦ nothing | false ↦ results [] ]
          ]
    ]

-- v in R, and each membership of v alone behind it: "in the order of their literals, until one clashes"
abbrev pub try_behind : ℕ → Unordered → Var → Expr → Conj → Reply (List Conj)
try_behind limit u v R [] = nothing
try_behind limit u v R (eqn l r ∷ k) = try_behind limit u v R k
try_behind limit u v R (mem h S ∷ k) =
    elim (is_lone v h) [
      | true ↦ or_next (try_pair limit u v R S) (λ _. try_behind limit u v R k)
      | false ↦ try_behind limit u v R k
    ]

-- The clash of walks up to that limit, where u says which symbols are unordered.
abbrev pub ClashBy : ℕ → Unordered → PairRule
ClashBy limit u (eqn l r) behind = nothing
ClashBy limit u (mem h R) behind = elim (lone_var h) [ none ↦ nothing | some v ↦ try_behind limit u v R behind ]
