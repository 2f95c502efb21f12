-- What a state means stands in the words.
use Prim.Native.Nat.{ℕ, ◌+◌}
use mathlib.Core.Path.{◌≡◌, refl, sym, ap, subst, ◌∙◌}
use mathlib.Core.Logic.{inl, inr}
use mathlib.Core.List.{List, ◌++◌}
use lib.Dec.{eqb, ltb}
use lib.ListN.{length, get_or}
use Rattle.language.specs.Trees.{Expr, eps, cat, alt, star, over}
use Rattle.language.specs.Writing.{expr_words}
use Rattle.expressions.specs.Standing.{Here}
use Rattle.expressions.proofs.Standing.{word-of, tail_of, first_of, second-of}
use Rattle.walk.specs.Spots.{Spot, here, in_left, in_right, in_first, in_second, in_star, whole, name_at, inner_at}
use Rattle.charts.specs.Levels.{place_of, Sought, nowhere, on_top, below, through, under, sought}
use Rattle.state_classes.specs.States.{Spotted}
use Rattle.charts.proofs.Places.{Right, Around, chosen, sought-top, sought-right, sought-around}

-- ---- standing

abbrev pub Stands : List ℕ → ℕ → Expr → Type 0
Stands k at R = (w : List ℕ) × Here k at R w

module _ (k : List ℕ) (at : ℕ) where
  pub in-cat : (a b : Expr) → Stands k at (cat a b) → Stands k (at + 1) a × Stands k (at + 1 + length (expr_words a)) b
  in-cat a b (w, h) = let f = first_of k at 7001 a b w h.fine.0 h.words in ((expr_words b ++ w, f), (w, second-of f h.fine.1 refl))

  pub in-alt : (a b : Expr) → Stands k at (alt a b) → Stands k (at + 1) a × Stands k (at + 1 + length (expr_words a)) b
  in-alt a b (w, h) = let f = first_of k at 7002 a b w h.fine.0 h.words in ((expr_words b ++ w, f), (w, second-of f h.fine.1 refl))

  pub in-star : (a : Expr) → Stands k at (star a) → Stands k (at + 1) a
  in-star a (w, h) = (w, record { fine = h.fine; words = tail_of k at h.words })

  pub in-over : (f : _) (a : Expr) → Stands k at (over f a) → Stands k (at + 1) a
  in-over f a (w, h) = (w, record { fine = h.fine.1; words = tail_of k at h.words })

-- of a spot, its symbol and what is inside it
pub spot-inside : (k : List ℕ) (at : ℕ) (p : Spot) → Stands k at (whole p) → Stands k (place_of at p + 1) (inner_at p)
spot-inside k at (here f R) h = in-over k at f R h
spot-inside k at (in_left p b) h = spot-inside k (at + 1) p (in-cat k at (whole p) b h).0
spot-inside k at (in_right a p) h = spot-inside k (at + 1 + length (expr_words a)) p (in-cat k at a (whole p) h).1
spot-inside k at (in_first p b) h = spot-inside k (at + 1) p (in-alt k at (whole p) b h).0
spot-inside k at (in_second a p) h = spot-inside k (at + 1 + length (expr_words a)) p (in-alt k at a (whole p) h).1
spot-inside k at (in_star p) h = spot-inside k (at + 1) p (in-star k at (whole p) h)

pub spot-word : (k : List ℕ) (at : ℕ) (p : Spot) → Stands k at (whole p) → get_or k (place_of at p) 0 ≡ 3000 + (name_at p).0
spot-word k at (here f R) (w, h) = word-of k at h.words
spot-word k at (in_left p b) h = spot-word k (at + 1) p (in-cat k at (whole p) b h).0
spot-word k at (in_right a p) h = spot-word k (at + 1 + length (expr_words a)) p (in-cat k at a (whole p) h).1
spot-word k at (in_first p b) h = spot-word k (at + 1) p (in-alt k at (whole p) b h).0
spot-word k at (in_second a p) h = spot-word k (at + 1 + length (expr_words a)) p (in-alt k at a (whole p) h).1
spot-word k at (in_star p) h = spot-word k (at + 1) p (in-star k at (whole p) h)

-- an inner expression whose symbol was found
abbrev Level : List ℕ → Sought → Type 0
Level k nowhere = Unit {0}
Level k (on_top p) = Unit {0}
Level k (below l p) = Stands k l (whole p)

level-through : (k : List ℕ) (f : Spot → Spot) (s : Sought) → Level k s → Level k (through f s)
level-through k f nowhere d = tt
level-through k f (on_top p) d = tt
level-through k f (below l p) d = d

level-under : (k : List ℕ) (m : ℕ) (A : Expr) (j : ℕ) (s : Sought) → Stands k m A → Right m A j s → Level k s → Level k (under m s)
level-under k m A j nowhere h r d = tt
level-under k m A j (on_top p) h r d = subst (Stands k m) (sym r.0) h
level-under k m A j (below l p) h r d = d

level-stands : (k : List ℕ) (at : ℕ) (R : Expr) (j : ℕ) → Stands k at R → Level k (sought at R j)
level-stands k at eps j h = tt
level-stands k at (cat a b) j h =
    let (x, y) = in-cat k at a b h in
    chosen (Level k) (ltb j (at + 1 + length (expr_words a))) (level-through k (λ p. in_left p b) (sought (at + 1) a j) (level-stands k (at + 1) a j x))
    (level-through k (in_right a) (sought (at + 1 + length (expr_words a)) b j) (level-stands k (at + 1 + length (expr_words a)) b j y))
level-stands k at (alt a b) j h =
    let (x, y) = in-alt k at a b h in
    chosen (Level k) (ltb j (at + 1 + length (expr_words a))) (level-through k (λ p. in_first p b) (sought (at + 1) a j) (level-stands k (at + 1) a j x))
    (level-through k (in_second a) (sought (at + 1 + length (expr_words a)) b j) (level-stands k (at + 1 + length (expr_words a)) b j y))
level-stands k at (star a) j h = level-through k in_star (sought (at + 1) a j) (level-stands k (at + 1) a j (in-star k at a h))
level-stands k at (over f a) j h =
    let x = in-over k at f a h in
    chosen (Level k) (eqb j at) tt (level-under k (at + 1) a j (sought (at + 1) a j) x (sought-right (at + 1) a j) (level-stands k (at + 1) a j x))

-- ---- a symbol that was found

module _ (at : ℕ) (R : Expr) (j l : ℕ) (p : Spot) (s : Spotted at R j l p) where
  pub spotted-place : place_of l p ≡ j
  spotted-place = elim s [
    | inl (e, d) ↦ ap (λ m. place_of m p) e ∙ (subst (Right at R j) d (sought-right at R j)).1
    | inr d ↦ (subst (Right at R j) d (sought-right at R j)).0
  ]

  pub spotted-stands : (k : List ℕ) → Stands k at R → Stands k l (whole p)
  spotted-stands k h = elim s [
    | inl (e, d) ↦ subst (λ m. Stands k m (whole p)) (sym e) (subst (Stands k at) (sym (subst (Right at R j) d (sought-right at R j)).0) h)
    | inr d ↦ subst (Level k) d (level-stands k at R j h)
  ]

  -- the other symbols of the same expression, and those of the one inside it
  pub spotted-beside : (q : Spot) → whole q ≡ whole p → Spotted at R (place_of l q) l q
  spotted-beside q w = elim s [
    | inl (e, d) ↦
        let r = w ∙ (subst (Right at R j) d (sought-right at R j)).0 in
        inl (e, ap (λ m. sought at R (place_of m q)) e ∙ subst (λ A. sought at A (place_of at q) ≡ on_top q) r (sought-top at q))
    | inr d ↦ inr ((subst (Around at R j) d (sought-around at R j)).0 q w)
  ]

  pub spotted-inside : (q : Spot) → whole q ≡ inner_at p → Spotted at R (place_of (j + 1) q) (j + 1) q
  spotted-inside q w = elim s [
    | inl (e, d) ↦ inr (subst (Around at R j) d (sought-around at R j) q w)
    | inr d ↦ inr ((subst (Around at R j) d (sought-around at R j)).1 q w)
  ]
