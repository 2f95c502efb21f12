-- The symbols of an expression that stand below no other symbol: the way down to one, what is left after it is read, and which can follow it.
use Rattle.std.specs.Prelude.{List, [], ◌∷◌, ◌++◌, map}
use Rattle.language.specs.declared.Sym.{Sym}
use Rattle.language.specs.Kinds.{pick}
use Rattle.language.specs.Trees.{Expr, eps, cat, alt, star, over}
use Rattle.rules.specs.Looks.{is_eps}
use Rattle.rules.specs.Expressions.{nullable, Monomial}

-- the way down, with what stands beside it
pub data Spot : Type 0 where
  here : Sym → Expr → Spot
  in_left : Spot → Expr → Spot
  in_right : Expr → Spot → Spot
  in_first : Spot → Expr → Spot
  in_second : Expr → Spot → Spot
  in_star : Spot → Spot

-- the expression that it is a spot of
abbrev pub whole : Spot → Expr
whole (here f R) = over f R
whole (in_left p b) = cat (whole p) b
whole (in_right a p) = cat a (whole p)
whole (in_first p b) = alt (whole p) b
whole (in_second a p) = alt a (whole p)
whole (in_star p) = star (whole p)

abbrev pub name_at : Spot → Sym
name_at (here f R) = f
name_at (in_left p b) = name_at p
name_at (in_right a p) = name_at p
name_at (in_first p b) = name_at p
name_at (in_second a p) = name_at p
name_at (in_star p) = name_at p

abbrev pub inner_at : Spot → Expr
inner_at (here f R) = R
inner_at (in_left p b) = inner_at p
inner_at (in_right a p) = inner_at p
inner_at (in_first p b) = inner_at p
inner_at (in_second a p) = inner_at p
inner_at (in_star p) = inner_at p

-- C and then R, as the linear form joins them
abbrev pub behind : Expr → Expr → Expr
behind R C = pick (is_eps R) C (pick (is_eps C) R (cat C R))

-- what is left after the symbol is read
abbrev pub rest_at : Spot → Expr
rest_at (here f R) = eps
rest_at (in_left p b) = behind b (rest_at p)
rest_at (in_right a p) = rest_at p
rest_at (in_first p b) = rest_at p
rest_at (in_second a p) = rest_at p
rest_at (in_star p) = behind (star (whole p)) (rest_at p)

abbrev pub monomial : Spot → Monomial
monomial p = record { name = name_at p; inner = inner_at p; rest = rest_at p }

-- every spot
abbrev pub spots : Expr → List Spot
spots eps = []
spots (cat a b) = map (λ p. in_left p b) (spots a) ++ map (in_right a) (spots b)
spots (alt a b) = map (λ p. in_first p b) (spots a) ++ map (in_second a) (spots b)
spots (star a) = map in_star (spots a)
spots (over f R) = here f R ∷ []

-- those that can be read first
abbrev pub firsts : Expr → List Spot
firsts eps = []
firsts (cat a b) = map (λ p. in_left p b) (firsts a) ++ pick (nullable a) (map (in_right a) (firsts b)) []
firsts (alt a b) = map (λ p. in_first p b) (firsts a) ++ map (in_second a) (firsts b)
firsts (star a) = map in_star (firsts a)
firsts (over f R) = here f R ∷ []

-- those that can be read next
abbrev pub nexts : Spot → List Spot
nexts (here f R) = []
nexts (in_left p b) = map (λ q. in_left q b) (nexts p) ++ pick (nullable (rest_at p)) (map (in_right (whole p)) (firsts b)) []
nexts (in_right a p) = map (in_right a) (nexts p)
nexts (in_first p b) = map (λ q. in_first q b) (nexts p)
nexts (in_second a p) = map (in_second a) (nexts p)
nexts (in_star p) = map in_star (nexts p) ++ pick (nullable (rest_at p)) (map in_star (firsts (whole p))) []

-- ---- the expressions that linear forms lead to

-- the inner expression of every symbol in R, at any depth
abbrev pub inners : Expr → List Expr
inners eps = []
inners (cat a b) = inners a ++ inners b
inners (alt a b) = inners a ++ inners b
inners (star a) = inners a
inners (over f R) = R ∷ inners R

-- R, and these
abbrev pub levels : Expr → List Expr
levels R = R ∷ inners R

-- of each level the level itself, and what is left after each of its spots
abbrev pub within : List Expr → List Expr
within [] = []
within (S ∷ l) = S ∷ (map rest_at (spots S) ++ within l)

abbrev pub states : Expr → List Expr
states R = within (levels R)
