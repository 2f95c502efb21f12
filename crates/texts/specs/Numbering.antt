-- "The reader numbers names of each kind in order of first appearance, counts those that appear, and declares one symbol if there is none."
-- "The text form has u = 0 only": no symbol that it declares is unordered.
use Rattle.std.specs.Prelude.{ℕ, zero, suc, ◌+◌, Bool, false, ◌||◌, List, [], ◌∷◌, ◌++◌, ltb, eqb, length}
use Rattle.std.proofs.Math.Option.{Option, none, some}
use Rattle.language.specs.Kinds.{pick}
use Rattle.language.specs.Trees.{Functor, symbol, fvar, Hedge, ε, tvar, hvar, node, Expr, eps, cat, alt, star, over, Literal, eqn, mem, Conj, Counts}

pub data Class : Type 0 where
  symbols : Class
  terms : Class
  hedges : Class
  functions : Class

-- ---- the names of a class, in the order of the words; `k` stands behind

abbrev pub at_s : Class → ℕ → List ℕ → List ℕ
at_s symbols n k = n ∷ k
at_s terms n k = k
at_s hedges n k = k
at_s functions n k = k

abbrev pub at_t : Class → ℕ → List ℕ → List ℕ
at_t symbols n k = k
at_t terms n k = n ∷ k
at_t hedges n k = k
at_t functions n k = k

abbrev pub at_h : Class → ℕ → List ℕ → List ℕ
at_h symbols n k = k
at_h terms n k = k
at_h hedges n k = n ∷ k
at_h functions n k = k

abbrev pub at_x : Class → ℕ → List ℕ → List ℕ
at_x symbols n k = k
at_x terms n k = k
at_x hedges n k = k
at_x functions n k = n ∷ k

abbrev pub at_f : Class → Functor → List ℕ → List ℕ
at_f c (symbol f) k = at_s c f.0 k
at_f c (fvar X) k = at_x c X.0 k

abbrev pub in_hedge : Class → Hedge → List ℕ → List ℕ
in_hedge c ε k = k
in_hedge c (tvar x r) k = at_t c x.0 (in_hedge c r k)
in_hedge c (hvar p r) k = at_h c p.0 (in_hedge c r k)
in_hedge c (node f a r) k = at_f c f (in_hedge c a (in_hedge c r k))

abbrev pub in_expr : Class → Expr → List ℕ → List ℕ
in_expr c eps k = k
in_expr c (cat a b) k = in_expr c a (in_expr c b k)
in_expr c (alt a b) k = in_expr c a (in_expr c b k)
in_expr c (star a) k = in_expr c a k
in_expr c (over f a) k = at_s c f.0 (in_expr c a k)

abbrev pub in_literal : Class → Literal → List ℕ → List ℕ
in_literal c (eqn l r) k = in_hedge c l (in_hedge c r k)
in_literal c (mem h R) k = in_hedge c h (in_expr c R k)

abbrev pub in_conj : Class → Conj → List ℕ → List ℕ
in_conj c [] k = k
in_conj c (l ∷ ls) k = in_literal c l (in_conj c ls k)

abbrev pub in_all : Class → List Conj → List ℕ
in_all c [] = []
in_all c (j ∷ js) = in_conj c j (in_all c js)

-- ---- other names, one for each

abbrev pub Naming : Type 0
Naming = Class → ℕ → ℕ

abbrev pub name_f : Naming → Functor → Functor
name_f ρ (symbol f) = symbol (record { 0 = ρ symbols f.0 })
name_f ρ (fvar X) = fvar (record { 0 = ρ functions X.0 })

abbrev pub name_hedge : Naming → Hedge → Hedge
name_hedge ρ ε = ε
name_hedge ρ (tvar x r) = tvar (record { 0 = ρ terms x.0 }) (name_hedge ρ r)
name_hedge ρ (hvar p r) = hvar (record { 0 = ρ hedges p.0 }) (name_hedge ρ r)
name_hedge ρ (node f a r) = node (name_f ρ f) (name_hedge ρ a) (name_hedge ρ r)

abbrev pub name_expr : Naming → Expr → Expr
name_expr ρ eps = eps
name_expr ρ (cat a b) = cat (name_expr ρ a) (name_expr ρ b)
name_expr ρ (alt a b) = alt (name_expr ρ a) (name_expr ρ b)
name_expr ρ (star a) = star (name_expr ρ a)
name_expr ρ (over f a) = over (record { 0 = ρ symbols f.0 }) (name_expr ρ a)

abbrev pub name_literal : Naming → Literal → Literal
name_literal ρ (eqn l r) = eqn (name_hedge ρ l) (name_hedge ρ r)
name_literal ρ (mem h R) = mem (name_hedge ρ h) (name_expr ρ R)

abbrev pub name_conj : Naming → Conj → Conj
name_conj ρ [] = []
name_conj ρ (l ∷ k) = name_literal ρ l ∷ name_conj ρ k

abbrev pub name_all : Naming → List Conj → List Conj
name_all ρ [] = []
name_all ρ (k ∷ ks) = name_conj ρ k ∷ name_all ρ ks

-- ---- a table of names: each that is new is put at its end

abbrev pub holds : ℕ → List ℕ → Bool
holds n [] = false
holds n (m ∷ l) = eqb n m || holds n l

-- its place in the table, which is its number
abbrev pub place : ℕ → List ℕ → ℕ
place n [] = 0
place n (m ∷ l) = pick (eqb n m) 0 (suc (place n l))

abbrev pub enter : ℕ → List ℕ → List ℕ
enter n table = pick (holds n table) table (table ++ (n ∷ []))

abbrev pub entered : List ℕ → List ℕ → List ℕ
entered table [] = table
entered table (n ∷ l) = entered (enter n table) l

-- the names of a class in the order of their first appearance
unfoldable pub table : List Conj → Class → List ℕ
table ks c = entered [] (in_all c ks)

-- each name its number
unfoldable pub numbered : List Conj → List Conj
numbered ks = name_all (λ c n. place n (table ks c)) ks

abbrev pub at_least_one : ℕ → ℕ
at_least_one zero = 1
at_least_one (suc n) = suc n

unfoldable pub counts_in : List Conj → Counts
counts_in ks = record {
  symbols = at_least_one (length (table ks symbols));
  unordered = 0;
  terms = length (table ks terms);
  hedges = length (table ks hedges);
  functions = length (table ks functions);
}

-- ---- a question that is numbered so already: from `n` on, each number is an old one or the next

abbrev pub in_order : ℕ → List ℕ → Option ℕ
in_order n [] = some n
in_order n (m ∷ l) = pick (ltb m n) (in_order n l) (pick (eqb m n) (in_order (suc n) l) none)
