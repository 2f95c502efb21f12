-- How membership in any order is decided: what may be left of expressions when one term is taken out. Expressions in a row stand for one hedge of
-- each, put in any order; all that is left is parts of the expression itself.
use Rattle.std.specs.Prelude.{ℕ, zero, suc, ◌+◌, Bool, true, false, ◌&&◌, ◌||◌, List, [], ◌∷◌, ◌++◌, map, leb}
use Rattle.language.specs.declared.Sym.{Sym}
use Rattle.language.specs.Kinds.{pick}
use Rattle.language.specs.Trees.{Expr, eps, cat, alt, star, over}
use Rattle.meaning.specs.Complete.{Complete, nil, tree}
use Rattle.rules.specs.Expressions.{nullable}

-- what may be left of R when a term is taken out, of which p says whether it is of g(S)
abbrev pub left : (Sym → Expr → Bool) → Expr → List (List Expr)
left p eps = []
left p (cat a b) = map (λ (q : List Expr). q ++ (b ∷ [])) (left p a) ++ map (λ (q : List Expr). a ∷ q) (left p b)
left p (alt a b) = left p a ++ left p b
left p (star a) = map (λ (q : List Expr). q ++ (star a ∷ [])) (left p a)
left p (over g S) = pick (p g S) ([] ∷ []) []

-- the same of several: it is taken out of one of them
abbrev pub left_of : (Sym → Expr → Bool) → List Expr → List (List Expr)
left_of p [] = []
left_of p (R ∷ rs) = map (λ (q : List Expr). q ++ rs) (left p R) ++ map (λ (q : List Expr). R ∷ q) (left_of p rs)

-- ε is in each
abbrev pub all_nullable : List Expr → Bool
all_nullable [] = true
all_nullable (R ∷ rs) = nullable R && all_nullable rs

-- one of them passes
abbrev pub some : {A : Type 0} → (A → Bool) → List A → Bool
some t [] = false
some t (x ∷ xs) = t x || some t xs

-- ---- too few terms

-- how many terms stand at the top
abbrev pub breadth : Complete → ℕ
breadth nil = zero
breadth (tree f c r) = suc (breadth r)

-- the least that a member has
abbrev pub shortest : Expr → ℕ
shortest eps = 0
shortest (cat a b) = shortest a + shortest b
shortest (alt a b) = pick (leb (shortest a) (shortest b)) (shortest a) (shortest b)
shortest (star a) = 0
shortest (over f a) = 1

abbrev pub shortest_of : List Expr → ℕ
shortest_of [] = 0
shortest_of (R ∷ rs) = shortest R + shortest_of rs
