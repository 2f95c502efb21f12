-- Two expressions walked together: the pairs of expressions that the walk reaches, and whether a hedge, or a term, lies in both.
use Rattle.std.specs.Prelude.{ℕ, zero, suc, ◌*◌, Bool, true, false, ◌&&◌, ◌||◌, List, [], ◌∷◌, ◌++◌, ltb, length}
use Rattle.language.specs.Kinds.{pick}
use Rattle.language.specs.Trees.{Expr, eq_s, same_expr}
use Rattle.language.specs.Writing.{expr_words}
use Rattle.rules.specs.Expressions.{nullable, Monomial, linear}

abbrev pub Pair : Type 0
Pair = Expr × Expr

-- ---- lists of pairs, "different by their words"

abbrev pub same_pair : Pair → Pair → Bool
same_pair p q = same_expr p.0 q.0 && same_expr p.1 q.1

abbrev pub among : Pair → List Pair → Bool
among p [] = false
among p (q ∷ s) = same_pair p q || among p s

-- s, and before it each of ps that is not there yet
abbrev pub added : List Pair → List Pair → List Pair
added [] s = s
added (p ∷ ps) s = added ps (pick (among p s) s (p ∷ s))

-- s, what follows from it, what follows from all these, and so on until nothing is new; n times at most
abbrev pub closure : (List Pair → List Pair) → ℕ → List Pair → List Pair
closure next zero s = s
closure next (suc n) s = let t = added (next s) s in elim (ltb (length s) (length t)) [ true ↦ closure next n t | false ↦ s ]

-- ---- the pairs that are reached

-- "for every monomial of the one and of the other's linear form with the same symbol, to the pair of their inner expressions and the pair of their rests"
abbrev pub parts_of : Monomial → Monomial → List Pair
parts_of m n = pick (eq_s m.name n.name) ((m.inner, n.inner) ∷ (m.rest, n.rest) ∷ []) []

abbrev pub parts_with : Monomial → List Monomial → List Pair
parts_with m [] = []
parts_with m (n ∷ l) = parts_of m n ++ parts_with m l

abbrev pub parts_all : List Monomial → List Monomial → List Pair
parts_all [] l = []
parts_all (m ∷ k) l = parts_with m l ++ parts_all k l

-- where the walk goes on to from a pair, and from several
abbrev pub onward : Pair → List Pair
onward p = parts_all (linear p.0) (linear p.1)

abbrev pub onwards : List Pair → List Pair
onwards [] = []
onwards (p ∷ s) = onward p ++ onwards s

-- No walk reaches more: linear forms lead from an expression to fewer different ones than twice its words.
abbrev pub most : Expr → Expr → ℕ
most R S = (2 * length (expr_words R)) * (2 * length (expr_words S))

-- "The walk for two expressions starts from that pair"
unfoldable pub reached : Expr → Expr → List Pair
reached R S = closure onwards (most R S) ((R, S) ∷ [])

-- "21 when a walk reaches more than" so many "different pairs"
unfoldable pub long_walk : ℕ → Expr → Expr → Bool
long_walk limit R S = ltb limit (length (reached R S))

-- ---- what lies in both

-- the test holds of some monomial of the one list and some of the other
abbrev pub some_of : (Monomial → Bool) → List Monomial → Bool
some_of t [] = false
some_of t (n ∷ l) = t n || some_of t l

abbrev pub some_pair : (Monomial → Monomial → Bool) → List Monomial → List Monomial → Bool
some_pair t [] l = false
some_pair t (m ∷ k) l = some_of (t m) l || some_pair t k l

-- Where the pairs of s share a hedge, so does p: the empty one, or one whose first term two monomials with the same symbol take, with pairs of s for what
-- is inside that term and for what follows it.
abbrev pub shares_by : List Pair → Pair → Bool
shares_by s p =
    (nullable p.0 && nullable p.1)
    || some_pair (λ m k. eq_s m.name k.name && among (m.inner, k.inner) s && among (m.rest, k.rest) s) (linear p.0) (linear p.1)

abbrev pub sharing : List Pair → List Pair → List Pair
sharing [] s = []
sharing (p ∷ ps) s = pick (shares_by s p) (p ∷ sharing ps s) (sharing ps s)

-- those of the pairs that share a hedge
unfoldable pub shared : List Pair → List Pair
shared ps = closure (sharing ps) (length ps) []

-- some hedge lies in both
unfoldable pub common_hedge : Expr → Expr → Bool
common_hedge R S = among (R, S) (shared (reached R S))

-- some term lies in both, as a hedge of that term alone
abbrev pub term_by : List Pair → Expr → Expr → Bool
term_by s R S = some_pair (λ m k. eq_s m.name k.name && among (m.inner, k.inner) s && (nullable m.rest && nullable k.rest)) (linear R) (linear S)

unfoldable pub common_term : Expr → Expr → Bool
common_term R S = term_by (shared (reached R S)) R S
