-- Laws of marks: lists of places in a row, and places of spots that go through a part.
use Prim.Native.Nat.{ℕ, ◌+◌}
use mathlib.Core.Path.{◌≡◌, refl, ap, ◌∙◌}
use mathlib.Core.Bool.{Bool, true, false}
use mathlib.Core.List.{List, [], ◌∷◌, ◌++◌, map}
use lib.ListN.{length, set, length-set}
use Rattle.language.specs.Kinds.{pick}
use Rattle.language.specs.Trees.{Expr}
use Rattle.language.specs.Writing.{expr_words}
use Rattle.walk.specs.Spots.{Spot, in_left, in_right, in_first, in_second, in_star}
use Rattle.charts.specs.Levels.{place_of}
use Rattle.clash.specs.Marks.{places_of, marked}

pub marked-long : (ps : List ℕ) (f : List Bool) → length (marked ps f) ≡ length f
marked-long [] f = refl
marked-long (p ∷ ps) f = marked-long ps (set f p true) ∙ length-set f p true

pub marked-++ : (ps qs : List ℕ) (f : List Bool) → marked (ps ++ qs) f ≡ marked qs (marked ps f)
marked-++ [] qs f = refl
marked-++ (p ∷ ps) qs f = marked-++ ps qs (set f p true)

pub places-++ : (at : ℕ) (ps qs : List Spot) → places_of at (ps ++ qs) ≡ places_of at ps ++ places_of at qs
places-++ at [] qs = refl
places-++ at (p ∷ ps) qs = ap (λ l. place_of at p ∷ l) (places-++ at ps qs)

pub places-pick : (at : ℕ) (b : Bool) (ps : List Spot) → places_of at (pick b ps []) ≡ pick b (places_of at ps) []
places-pick at true ps = refl
places-pick at false ps = refl

-- spots that go through f, each at a place that is known
through : (at m : ℕ) (f : Spot → Spot) → ((p : Spot) → place_of at (f p) ≡ place_of m p) → (ps : List Spot) → places_of at (map f ps) ≡ places_of m ps
through at m f e [] = refl
through at m f e (p ∷ ps) = ap (λ n. n ∷ places_of at (map f ps)) (e p) ∙ ap (λ l. place_of m p ∷ l) (through at m f e ps)

module _ (at : ℕ) (ps : List Spot) where
  pub places-left : (b : Expr) → places_of at (map (λ p. in_left p b) ps) ≡ places_of (at + 1) ps
  places-left b = through at (at + 1) (λ p. in_left p b) (λ p. refl) ps

  pub places-right : (a : Expr) → places_of at (map (in_right a) ps) ≡ places_of (at + 1 + length (expr_words a)) ps
  places-right a = through at (at + 1 + length (expr_words a)) (in_right a) (λ p. refl) ps

  pub places-first : (b : Expr) → places_of at (map (λ p. in_first p b) ps) ≡ places_of (at + 1) ps
  places-first b = through at (at + 1) (λ p. in_first p b) (λ p. refl) ps

  pub places-second : (a : Expr) → places_of at (map (in_second a) ps) ≡ places_of (at + 1 + length (expr_words a)) ps
  places-second a = through at (at + 1 + length (expr_words a)) (in_second a) (λ p. refl) ps

  pub places-star : places_of at (map in_star ps) ≡ places_of (at + 1) ps
  places-star = through at (at + 1) in_star (λ p. refl) ps
