-- Linear forms lead from the states of an expression to its states: there are finitely many.
use mathlib.Core.Path.{◌≡◌, refl, ◌∙◌}
use mathlib.Core.Logic.{◌⊎◌, inl, inr}
use mathlib.Core.List.{List, ◌∷◌, ◌++◌, map, Memᴰ}
use Rattle.language.specs.Trees.{Expr, eps, cat, alt, star, over}
use Rattle.rules.specs.Expressions.{Monomial, linear}
use Rattle.rules.proofs.Each.{each_in}
use Rattle.walk.specs.Spots.{Spot, here, in_left, in_right, in_first, in_second, in_star, whole, inner_at, rest_at, monomial, spots, firsts, nexts, inners, levels, within, states}
use Rattle.walk.proofs.Members.{in_left_lem, in_right_lem, of-++, in_map, of_map}
use Rattle.walk.proofs.Continuations.{firsts-of, nexts-of, spots-of, first-monomials, next-monomials}

in-spots : (p : Spot) → Memᴰ p (spots (whole p))
in-spots (here f R) = Memᴰ.head refl
in-spots (in_left p b) = in_left_lem (map (in_right (whole p)) (spots b)) (in_map (λ p. in_left p b) (in-spots p))
in-spots (in_right a p) = in_right_lem (map (λ q. in_left q (whole p)) (spots a)) (in_map (in_right a) (in-spots p))
in-spots (in_first p b) = in_left_lem (map (in_second (whole p)) (spots b)) (in_map (λ p. in_first p b) (in-spots p))
in-spots (in_second a p) = in_right_lem (map (λ q. in_first q (whole p)) (spots a)) (in_map (in_second a) (in-spots p))
in-spots (in_star p) = in_map in_star (in-spots p)

in-inners : (p : Spot) → Memᴰ (inner_at p) (inners (whole p))
in-inners (here f R) = Memᴰ.head refl
in-inners (in_left p b) = in_left_lem (inners b) (in-inners p)
in-inners (in_right a p) = in_right_lem (inners a) (in-inners p)
in-inners (in_first p b) = in_left_lem (inners b) (in-inners p)
in-inners (in_second a p) = in_right_lem (inners a) (in-inners p)
in-inners (in_star p) = in-inners p

-- the inner expressions of an inner expression
inners-on : (R : Expr) {S X : Expr} → Memᴰ S (inners R) → Memᴰ X (inners S) → Memᴰ X (inners R)
inners-on eps m n = elim m [ ]
inners-on (cat a b) m n = elim (of-++ (inners a) m) [ inl k ↦ in_left_lem (inners b) (inners-on a k n) | inr k ↦ in_right_lem (inners a) (inners-on b k n) ]
inners-on (alt a b) m n = elim (of-++ (inners a) m) [ inl k ↦ in_left_lem (inners b) (inners-on a k n) | inr k ↦ in_right_lem (inners a) (inners-on b k n) ]
inners-on (star a) m n = inners-on a m n
inners-on (over f R) (Memᴰ.head e) n = Memᴰ.tail (rw e at n)
inners-on (over f R) (Memᴰ.tail k) n = Memᴰ.tail (inners-on R k n)

levels-on : (R : Expr) {S X : Expr} → Memᴰ S (levels R) → Memᴰ X (inners S) → Memᴰ X (levels R)
levels-on R (Memᴰ.head e) n = Memᴰ.tail (rw e at n)
levels-on R (Memᴰ.tail k) n = Memᴰ.tail (inners-on R k n)

-- ---- the states of some levels

pub start-in : {S : Expr} (l : List Expr) → Memᴰ S l → Memᴰ S (within l)
start-in (U ∷ l) (Memᴰ.head e) = Memᴰ.head e
start-in (U ∷ l) (Memᴰ.tail m) = Memᴰ.tail (in_right_lem (map rest_at (spots U)) (start-in l m))
start-in {S = S} mathlib.Core.List.[] x' = elim x' [ ]

rest_in : (p : Spot) (l : List Expr) → Memᴰ (whole p) l → Memᴰ (rest_at p) (within l)
rest_in p (U ∷ l) (Memᴰ.head e) = Memᴰ.tail (in_left_lem (within l) (in_map rest_at (rw e at (in-spots p))))
rest_in p (U ∷ l) (Memᴰ.tail m) = Memᴰ.tail (in_right_lem (map rest_at (spots U)) (rest_in p l m))
rest_in p mathlib.Core.List.[] x' = elim x' [ ]

-- a level itself, or what is left after one of its spots
abbrev StateOf : Expr → Expr → Type 0
StateOf S X = (X ≡ S) ⊎ ((p : Spot) × (whole p ≡ S) × (X ≡ rest_at p))

of-within : {X : Expr} (l : List Expr) → Memᴰ X (within l) → (S : Expr) × Memᴰ S l × StateOf S X
of-within (U ∷ l) (Memᴰ.head e) = (U, Memᴰ.head refl, inl e)
of-within {X} (U ∷ l) (Memᴰ.tail m) = go (of-++ (map rest_at (spots U)) m) (of-within l)
  where
    go : Memᴰ X (map rest_at (spots U)) ⊎ Memᴰ X (within l) → (Memᴰ X (within l) → (S : Expr) × Memᴰ S l × StateOf S X)
        → (S : Expr) × Memᴰ S (U ∷ l) × StateOf S X
    go (inl n) r = let (p, k, e) = of_map rest_at (spots U) n in (U, Memᴰ.head refl, inr (p, each_in (λ p. whole p ≡ U) (spots-of U) k, e))
    go (inr n) r = let (S, k, o) = r n in (S, Memᴰ.tail k, o)
of-within {X = X} mathlib.Core.List.[] x' = elim x' [ ]

-- a monomial of a state is that of a spot of its level
spot_of : {S X : Expr} {m : Monomial} → StateOf S X → Memᴰ m (linear X) → (q : Spot) × (whole q ≡ S) × (m ≡ monomial q)
spot_of {S} (inl e) m =
    let (q, k, d) = of_map monomial (firsts S) (rw (e, first-monomials S) at m) in (q, each_in (λ q. whole q ≡ S) (firsts-of S) k, d)
spot_of {S} (inr (p, w, e)) m =
    let (q, k, d) = of_map monomial (nexts p) (rw (e, next-monomials p) at m) in (q, each_in (λ q. whole q ≡ whole p) (nexts-of p) k ∙ w, d)

-- Both parts of a monomial of a state are states.
pub closed : (R : Expr) {X : Expr} {m : Monomial} → Memᴰ X (states R) → Memᴰ m (linear X) → Memᴰ m.inner (states R) × Memᴰ m.rest (states R)
closed R s m =
    let (S, k, o) = of-within (levels R) s in
    let (q, w, e) = spot_of o m in
    rw e (start-in (levels R) (levels-on R k (rw w at (in-inners q))), rest_in q (levels R) (rw w k))
