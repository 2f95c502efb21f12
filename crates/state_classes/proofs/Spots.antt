-- Which spots an expression can have, and in which of its parts they stand.
use Prim.Native.Nat.{ℕ, ◌+◌, ◌<◌, ◌≤◌}
use mathlib.Core.Path.{◌≡◌, refl, ap}
use mathlib.Core.Logic.{◌⊎◌, inl, inr}
use mathlib.Core.List.{List}
use native.Mathlib.Omega.{arith}
use lib.ListN.{length}
use Rattle.language.specs.declared.Sym.{Sym}
use Rattle.language.specs.Trees.{Expr, eps, cat, alt, star, over}
use Rattle.language.specs.Writing.{expr_words}
use Rattle.expressions.specs.declared.Part.{Part}
use Rattle.expressions.specs.Standing.{Here, Parted}
use Rattle.walk.specs.Spots.{Spot, here, in_left, in_right, in_first, in_second, in_star, whole}
use Rattle.charts.specs.Levels.{place_of}
use Rattle.charts.proofs.Places.{place_in}

no : {A : Type 0} → ◌≡◌ {A = ℕ} 0 1 → A
no z = absurd (omega arith)

pub eps-spot : {A : Type 0} (s : Spot) → whole s ≡ eps → A
eps-spot (here f R) e = no cc
eps-spot (in_left p b) e = no cc
eps-spot (in_right a p) e = no cc
eps-spot (in_first p b) e = no cc
eps-spot (in_second a p) e = no cc
eps-spot (in_star p) e = no cc

pub over-spot : (s : Spot) (f : Sym) (A : Expr) → whole s ≡ over f A → s ≡ here f A
over-spot (here g R) f A e = cc
over-spot (in_left p b) f A e = no cc
over-spot (in_right a p) f A e = no cc
over-spot (in_first p b) f A e = no cc
over-spot (in_second a p) f A e = no cc
over-spot (in_star p) f A e = no cc

pub star-spot : (s : Spot) (A : Expr) → whole s ≡ star A → (t : Spot) × (whole t ≡ A) × (s ≡ in_star t)
star-spot (here g R) A e = no cc
star-spot (in_left p b) A e = no cc
star-spot (in_right a p) A e = no cc
star-spot (in_first p b) A e = no cc
star-spot (in_second a p) A e = no cc
star-spot (in_star p) A e = (p, cc, refl)

pub cat-spot : (s : Spot) (A B : Expr) → whole s ≡ cat A B → ((t : Spot) × (whole t ≡ A) × (s ≡ in_left t B)) ⊎ ((t : Spot) × (whole t ≡ B) × (s ≡ in_right A t))
cat-spot (here g R) A B e = no cc
cat-spot (in_left p b) A B e = inl (p, cc, cc)
cat-spot (in_right a p) A B e = inr (p, cc, cc)
cat-spot (in_first p b) A B e = no cc
cat-spot (in_second a p) A B e = no cc
cat-spot (in_star p) A B e = no cc

pub alt-spot : (s : Spot) (A B : Expr) → whole s ≡ alt A B → ((t : Spot) × (whole t ≡ A) × (s ≡ in_first t B)) ⊎ ((t : Spot) × (whole t ≡ B) × (s ≡ in_second A t))
alt-spot (here g R) A B e = no cc
alt-spot (in_left p b) A B e = no cc
alt-spot (in_right a p) A B e = no cc
alt-spot (in_first p b) A B e = inl (p, cc, cc)
alt-spot (in_second a p) A B e = inr (p, cc, cc)
alt-spot (in_star p) A B e = no cc

module _ (k : List ℕ) (at p : ℕ) {q : Part} (a : Parted k (at + 1) q) where
  -- a spot of the first part stands before the second, and one of the second does not
  pub not_first : {X : Type 0} {A : Expr} {w : List ℕ} → Here k (at + 1) A w → (t : Spot) → whole t ≡ A → place_of (at + 1) t ≡ p → q.end ≤ p → X
  not_first {A = A} h t e x l =
      let y = (a.each A _ h).end in
      let z = (place_in (at + 1) t).1 in
      let n = ap (λ X. length (expr_words X)) e in
      absurd (omega arith)

  pub not-second : {X : Type 0} {A : Expr} {w : List ℕ} → Here k (at + 1) A w → (t : Spot) → place_of (at + 1 + length (expr_words A)) t ≡ p → p < q.end → X
  not-second {A = A} h t x l =
      let y = (a.each A _ h).end in
      let z = (place_in (at + 1 + length (expr_words A)) t).0 in
      absurd (omega arith)
