-- What is left after a symbol is read depends on its spot alone: the linear form of an expression is that of its first spots, and the linear form of
-- what is left after a spot is that of the spots that can be read next. Lists are equal, order and repetition included.
use mathlib.Core.Path.{◌≡◌, refl, sym, ◌∙◌, ap}
use mathlib.Core.Bool.{Bool, true, false}
use mathlib.Core.List.{List, [], ◌∷◌, ◌++◌, map, append-nil}
use Rattle.language.specs.Kinds.{pick}
use Rattle.language.specs.Trees.{Expr, eps, cat, alt, star, over}
use Rattle.rules.specs.Looks.{is_eps}
use Rattle.rules.specs.Expressions.{nullable, Monomial, joined, ◌⊙◌, linear}
use Rattle.rules.proofs.Tests.{true-test}
use Rattle.rules.proofs.Looks.{is_eps-is}
use Rattle.rules.specs.Each.{Each}
use Rattle.rules.proofs.Each.{each_map, each-++}
use Rattle.walk.specs.Spots.{Spot, here, in_left, in_right, in_first, in_second, in_star, whole, rest_at, behind, monomial, spots, firsts, nexts}

-- monomials of spots that go through f are those of the spots
through : (f : Spot → Spot) → ((p : Spot) → monomial (f p) ≡ monomial p) → (ps : List Spot) → map monomial (map f ps) ≡ map monomial ps
through f e [] = refl
through f e (p ∷ ps) = rw (e p, through f e ps)

-- and with R behind them
joins : (R : Expr) (f : Spot → Spot) → ((p : Spot) → monomial (f p) ≡ pick (is_eps R) (monomial p) (joined R (monomial p))) → (ps : List Spot)
    → map monomial (map f ps) ≡ map monomial ps ⊙ R
joins R f e ps = go (is_eps R) refl ps
  where
    go : (b : Bool) → is_eps R ≡ b → (ps : List Spot) → map monomial (map f ps) ≡ pick b (map monomial ps) (map (joined R) (map monomial ps))
    go true d [] = refl
    go false d [] = refl
    go true d (p ∷ ps) = rw (e p, d, go true d ps)
    go false d (p ∷ ps) = rw (e p, d, go false d ps)

picked : (b : Bool) (ps : List Spot) → map monomial (pick b ps []) ≡ pick b (map monomial ps) []
picked true ps = refl
picked false ps = refl

-- monomials of spots in a row
row : (ps qs : List Spot) → map monomial (ps ++ qs) ≡ map monomial ps ++ map monomial qs
row [] qs = refl
row (p ∷ ps) qs = ap (λ l. monomial p ∷ l) (row ps qs)

-- ---- one more part behind a spot

left-joined : (b : Expr) (p : Spot) → monomial (in_left p b) ≡ pick (is_eps b) (monomial p) (joined b (monomial p))
left-joined b p = go (is_eps b) refl
  where
    go : (t : Bool) → is_eps b ≡ t → monomial (in_left p b) ≡ pick t (monomial p) (joined b (monomial p))
    go true e = rw e
    go false e = rw e

left-row : (b : Expr) (ps : List Spot) → map monomial (map (λ p. in_left p b) ps) ≡ map monomial ps ⊙ b
left-row b ps = joins b (λ p. in_left p b) (left-joined b) ps

right-row : (a : Expr) (ps : List Spot) → map monomial (map (in_right a) ps) ≡ map monomial ps
right-row a ps = through (in_right a) (λ p. refl) ps

first-row : (b : Expr) (ps : List Spot) → map monomial (map (λ p. in_first p b) ps) ≡ map monomial ps
first-row b ps = through (λ p. in_first p b) (λ p. refl) ps

second-row : (a : Expr) (ps : List Spot) → map monomial (map (in_second a) ps) ≡ map monomial ps
second-row a ps = through (in_second a) (λ p. refl) ps

-- ---- spots that follow one another are of one expression

-- all are spots of R
abbrev pub Of : Expr → List Spot → Type 0
Of R = Each (λ p. whole p ≡ R)

of-if : (R : Expr) (b : Bool) (ps : List Spot) → Of R ps → Of R (pick b ps [])
of-if R true ps o = o
of-if R false ps o = tt

of_left : (a b : Expr) (ps : List Spot) → Of a ps → Of (cat a b) (map (λ p. in_left p b) ps)
of_left a b ps = each_map (λ p. whole p ≡ a) (λ p. whole p ≡ cat a b) (λ p. in_left p b) (λ p e. ap (λ x. cat x b) e) ps

of_right : (a b : Expr) (ps : List Spot) → Of b ps → Of (cat a b) (map (in_right a) ps)
of_right a b ps = each_map (λ p. whole p ≡ b) (λ p. whole p ≡ cat a b) (in_right a) (λ p e. ap (λ x. cat a x) e) ps

of-first : (a b : Expr) (ps : List Spot) → Of a ps → Of (alt a b) (map (λ p. in_first p b) ps)
of-first a b ps = each_map (λ p. whole p ≡ a) (λ p. whole p ≡ alt a b) (λ p. in_first p b) (λ p e. ap (λ x. alt x b) e) ps

of-second : (a b : Expr) (ps : List Spot) → Of b ps → Of (alt a b) (map (in_second a) ps)
of-second a b ps = each_map (λ p. whole p ≡ b) (λ p. whole p ≡ alt a b) (in_second a) (λ p e. ap (λ x. alt a x) e) ps

of-star : (a : Expr) (ps : List Spot) → Of a ps → Of (star a) (map in_star ps)
of-star a ps = each_map (λ p. whole p ≡ a) (λ p. whole p ≡ star a) in_star (λ p e. ap star e) ps

of-++ : (R : Expr) (ps qs : List Spot) → Of R ps → Of R qs → Of R (ps ++ qs)
of-++ R = each-++ (λ p. whole p ≡ R)

pub firsts-of : (R : Expr) → Of R (firsts R)
firsts-of eps = tt
firsts-of (cat a b) =
    of-++ (cat a b) (map (λ p. in_left p b) (firsts a)) (pick (nullable a) (map (in_right a) (firsts b)) [])
    (of_left a b (firsts a) (firsts-of a)) (of-if (cat a b) (nullable a) (map (in_right a) (firsts b)) (of_right a b (firsts b) (firsts-of b)))
firsts-of (alt a b) =
    of-++ (alt a b) (map (λ p. in_first p b) (firsts a)) (map (in_second a) (firsts b))
    (of-first a b (firsts a) (firsts-of a)) (of-second a b (firsts b) (firsts-of b))
firsts-of (star a) = of-star a (firsts a) (firsts-of a)
firsts-of (over f R) = (refl, tt)

pub spots-of : (R : Expr) → Of R (spots R)
spots-of eps = tt
spots-of (cat a b) =
    of-++ (cat a b) (map (λ p. in_left p b) (spots a)) (map (in_right a) (spots b)) (of_left a b (spots a) (spots-of a)) (of_right a b (spots b) (spots-of b))
spots-of (alt a b) =
    of-++ (alt a b) (map (λ p. in_first p b) (spots a)) (map (in_second a) (spots b)) (of-first a b (spots a) (spots-of a)) (of-second a b (spots b) (spots-of b))
spots-of (star a) = of-star a (spots a) (spots-of a)
spots-of (over f R) = (refl, tt)

pub nexts-of : (p : Spot) → Of (whole p) (nexts p)
nexts-of (here f R) = tt
nexts-of (in_left p b) =
    of-++ (cat (whole p) b) (map (λ q. in_left q b) (nexts p)) (pick (nullable (rest_at p)) (map (in_right (whole p)) (firsts b)) [])
    (of_left (whole p) b (nexts p) (nexts-of p))
    (of-if (cat (whole p) b) (nullable (rest_at p)) (map (in_right (whole p)) (firsts b)) (of_right (whole p) b (firsts b) (firsts-of b)))
nexts-of (in_right a p) = of_right a (whole p) (nexts p) (nexts-of p)
nexts-of (in_first p b) = of-first (whole p) b (nexts p) (nexts-of p)
nexts-of (in_second a p) = of-second a (whole p) (nexts p) (nexts-of p)
nexts-of (in_star p) =
    of-++ (star (whole p)) (map in_star (nexts p)) (pick (nullable (rest_at p)) (map in_star (firsts (whole p))) [])
    (of-star (whole p) (nexts p) (nexts-of p))
    (of-if (star (whole p)) (nullable (rest_at p)) (map in_star (firsts (whole p))) (of-star (whole p) (firsts (whole p)) (firsts-of (whole p))))

-- ---- the linear forms

star-row : (a : Expr) (ps : List Spot) → Of a ps → map monomial (map in_star ps) ≡ map monomial ps ⊙ star a
star-row a [] o = refl
star-row a (p ∷ ps) o = rw (o.0, star-row a ps o.1)

-- The monomials of an expression are those of its first spots.
pub first-monomials : (R : Expr) → linear R ≡ map monomial (firsts R)
first-monomials eps = refl
first-monomials (cat a b) =
    rw (
      first-monomials a,
      first-monomials b,
      row (map (λ p. in_left p b) (firsts a)) (pick (nullable a) (map (in_right a) (firsts b)) []),
      left-row b (firsts a),
      picked (nullable a) (map (in_right a) (firsts b)),
      right-row a (firsts b),
    )
first-monomials (alt a b) =
    rw (first-monomials a, first-monomials b, row (map (λ p. in_first p b) (firsts a)) (map (in_second a) (firsts b)), first-row b (firsts a), second-row a (firsts b))
first-monomials (star a) = rw (first-monomials a) (sym (star-row a (firsts a) (firsts-of a)))
first-monomials (over f R) = refl

-- the linear form of what is left with b behind it
linear-behind : (b C : Expr) → linear (behind b C) ≡ (linear C ⊙ b) ++ pick (nullable C) (linear b) []
linear-behind b C = go (is_eps b) refl (is_eps C) refl
  where
    none : (t : Bool) (l : List Monomial) → l ≡ l ++ pick t [] []
    none true l = sym (append-nil l)
    none false l = sym (append-nil l)

    go : (t : Bool) → is_eps b ≡ t → (u : Bool) → is_eps C ≡ u → linear (pick t C (pick u b (cat C b))) ≡ (linear C ⊙ b) ++ pick (nullable C) (linear b) []
    go true e u d = rw (is_eps-is b (true-test (is_eps b) e)) (none (nullable C) (linear C))
    go false e true d = rw (is_eps-is C (true-test (is_eps C) d), e)
    go false e false d = refl

-- The monomials of what is left after a spot are those of the spots that can be read next.
pub next-monomials : (p : Spot) → linear (rest_at p) ≡ map monomial (nexts p)
next-monomials (here f R) = refl
next-monomials (in_left p b) =
    linear-behind b (rest_at p)
    ∙ rw (
      next-monomials p,
      first-monomials b,
      row (map (λ q. in_left q b) (nexts p)) (pick (nullable (rest_at p)) (map (in_right (whole p)) (firsts b)) []),
      left-row b (nexts p),
      picked (nullable (rest_at p)) (map (in_right (whole p)) (firsts b)),
      right-row (whole p) (firsts b),
    )
next-monomials (in_right a p) = next-monomials p ∙ sym (right-row a (nexts p))
next-monomials (in_first p b) = next-monomials p ∙ sym (first-row b (nexts p))
next-monomials (in_second a p) = next-monomials p ∙ sym (second-row a (nexts p))
next-monomials (in_star p) =
    linear-behind (star (whole p)) (rest_at p)
    ∙ rw (
      next-monomials p,
      first-monomials (whole p),
      row (map in_star (nexts p)) (pick (nullable (rest_at p)) (map in_star (firsts (whole p))) []),
      star-row (whole p) (nexts p) (nexts-of p),
      picked (nullable (rest_at p)) (map in_star (firsts (whole p))),
      star-row (whole p) (firsts (whole p)) (firsts-of (whole p)),
    )
