-- Terms put on symbols: only the numbers matter, not which term comes first.
use Prim.Native.Nat.{ℕ, zero, suc, ◌+◌, ◌<◌, ◌≤◌}
use mathlib.Core.Path.{◌≡◌, refl, sym, ◌∙◌}
use mathlib.Core.Logic.{◌⊎◌, inl, inr}
use mathlib.Core.Bool.{Bool, true, false}
use mathlib.Core.List.{List, [], ◌∷◌}
use native.Mathlib.Omega.{arith}
use lib.Dec.{eqb, leb}
use borrow.Author.Tests.{leb-true, leb-false, eq-eqb, ne_eqb}
use native.Mathlib.Decide.{ℕ_discrete}
use Rattle.language.specs.Kinds.{pick}
use Rattle.language.specs.Trees.{Expr, eps, cat, alt, star, over}
use Rattle.rules.specs.Each.{Each}
use Rattle.any_order.specs.Places.{size_e}
use Rattle.any_order.specs.Sharing.{Counts, bump, Sums, Kind, In, Ways, Rest, Good}

-- ---- the same numbers

abbrev pub Like : Counts → Counts → Type 0
Like c d = (q : ℕ) → c q ≡ d q

abbrev pub Respects : (Counts → Type 0) → Type 0
Respects G = (c d : Counts) → Like c d → G c → G d

pub sums-within : (R : Expr) (at : ℕ) (c d : Counts) (n : ℕ) → ((q : ℕ) → at ≤ q → q < at + size_e R → c q ≡ d q) → Sums R at c n → Sums R at d n
sums-within eps at c d n h s = tt
sums-within (cat a b) at c d n h (s, t) = (
  sums-within a (at + 1) c d n (λ q l u. h q (omega arith) (omega arith)) s,
  sums-within b (at + 1 + size_e a) c d n (λ q l u. h q (omega arith) (omega arith)) t,
)
sums-within (alt a b) at c d n h (i, j, e, s, t) = (
  i,
  j,
  e,
  sums-within a (at + 1) c d i (λ q l u. h q (omega arith) (omega arith)) s,
  sums-within b (at + 1 + size_e a) c d j (λ q l u. h q (omega arith) (omega arith)) t,
)
sums-within (star a) at c d n h (i, z, s) = (i, z, sums-within a (at + 1) c d i (λ q l u. h q (omega arith) (omega arith)) s)
sums-within (over f a) at c d n h s = sym (h at (omega arith) (omega arith)) ∙ s

pub good-like : (R : Expr) (at : ℕ) → Respects (Good R at)
good-like R at c d h s = sums-within R at c d 1 (λ q l u. h q) s

pub bump-like : (c d : Counts) (p : ℕ) → Like c d → Like (bump c p) (bump d p)
bump-like c d p h q = rw (h q)

swapped : (a b : Bool) (n : ℕ) → pick b (suc (pick a (suc n) n)) (pick a (suc n) n) ≡ pick a (suc (pick b (suc n) n)) (pick b (suc n) n)
swapped true true n = refl
swapped true false n = refl
swapped false true n = refl
swapped false false n = refl

pub bump-swap : (c : Counts) (p r : ℕ) → Like (bump (bump c p) r) (bump (bump c r) p)
bump-swap c p r q = swapped (eqb q p) (eqb q r) (c q)

pub bump-same : (c : Counts) (p : ℕ) → bump c p p ≡ suc (c p)
bump-same c p = rw (eq-eqb p p refl)

pub bump-other : (c : Counts) (p q : ℕ) → (q ≡ p → ⊥) → bump c p q ≡ c q
bump-other c p q n = rw (ne_eqb q p n)

pub ways-like : (G : Counts → Type 0) → Respects G → (n f : ℕ) (L : List ℕ) → Respects (λ c. Ways G c n f L)
ways-like G g zero f L c d h w = g c d h w
ways-like G g (suc n) f L c d h (p, i, l, w) = (p, i, l, ways-like G g n f L (bump c p) (bump d p) (bump-like c d p h) w)

pub rest-like : (G : Counts → Type 0) → Respects G → (ks : List Kind) → Respects (Rest G ks)
rest-like G g [] = g
rest-like G g (k ∷ ks) = ways-like (Rest G ks) (rest-like G g ks) k.times 0 k.places

-- ---- terms of one kind are put down from the left to the right

ways-lower : (G : Counts → Type 0) (c : Counts) (n f f' : ℕ) (L : List ℕ) → f' ≤ f → Ways G c n f L → Ways G c n f' L
ways-lower G c zero f f' L z w = w
ways-lower G c (suc n) f f' L z (p, i, l, w) = (p, i, omega arith, ways-lower G (bump c p) n f f' L z w)

abbrev pub Leftmost : (Counts → Type 0) → Counts → ℕ → ℕ → List ℕ → Type 0
Leftmost G c n f L = (p : ℕ) × In p L × (f ≤ p) × Ways G (bump c p) n p L

pub leftmost : (G : Counts → Type 0) → Respects G → (c : Counts) (n f : ℕ) (L : List ℕ) → Ways G c (suc n) f L → Leftmost G c n f L
leftmost G g c zero f L (p, i, l, w) = (p, i, l, w)
leftmost G g c (suc n) f L (p, i, l, w) = go (leftmost G g (bump c p) n f L w)
  where
    go : Leftmost G (bump c p) n f L → Leftmost G c (suc n) f L
    go (r, j, m, v) = by (leb p r) refl
      where
        by : (b : Bool) → leb p r ≡ b → Leftmost G c (suc n) f L
        by true e = (p, i, l, (r, j, leb-true p r e, ways-lower G (bump (bump c p) r) n r p L (leb-true p r e) v))
        by false e = (r, j, m, (p, i, omega (arith, leb-false p r e), ways-like G g n r L (bump (bump c p) r) (bump (bump c r) p) (bump-swap c p r) v))

pub from-leftmost : (G : Counts → Type 0) (c : Counts) (n f : ℕ) (L : List ℕ) → Leftmost G c n f L → Ways G c (suc n) f L
from-leftmost G c n f L (p, i, l, w) = (p, i, l, ways-lower G (bump c p) n p f L l w)

-- ---- what the numbers may become

pub record Reached (G : Counts → Type 0) (P : ℕ → Type 0) (c : Counts) : Type 0 where
  pub d : Counts
  pub good : G d
  pub least : (p : ℕ) → c p ≤ d p
  pub rest : (p : ℕ) → P p ⊎ (d p ≡ c p)

bumped-most : (c : Counts) (p q : ℕ) → c q ≤ bump c p q
bumped-most c p q = by (ℕ_discrete q p)
  where
    by : Dec (q ≡ p) → c q ≤ bump c p q
    by (yes e) = let z : bump c p q ≡ suc (c q) = rw e (bump-same c p) in omega arith
    by (no n) = omega (arith, bump-other c p q n)

reached-back : (G : Counts → Type 0) (P : ℕ → Type 0) (c : Counts) (p : ℕ) → P p → Reached G P (bump c p) → Reached G P c
reached-back G P c p y r = record {
  d = r.d;
  good = r.good;
  least = λ q. omega (arith, bumped-most c p q, r.least q);
  rest = λ q. by q (ℕ_discrete q p) (r.rest q);
}
  where
    by : (q : ℕ) → Dec (q ≡ p) → P q ⊎ (r.d q ≡ bump c p q) → P q ⊎ (r.d q ≡ c q)
    by q d (inl z) = inl z
    by q (yes e) (inr z) = inl (rw e y)
    by q (no n) (inr z) = inr (z ∙ bump-other c p q n)

pub ways-reach : (G H : Counts → Type 0) (P : ℕ → Type 0) → ((c : Counts) → H c → Reached G P c) → (c : Counts) (n f : ℕ) (L : List ℕ)
    → ((p : ℕ) → In p L → f ≤ p → P p) → Ways H c n f L → Reached G P c
ways-reach G H P on c zero f L y w = on c w
ways-reach G H P on c (suc n) f L y (p, i, l, w) = reached-back G P c p (y p i l) (ways-reach G H P on (bump c p) n f L y w)

pub rest-reach : (G : Counts → Type 0) (P : ℕ → Type 0) (ks : List Kind) → Each (λ (k : Kind). (p : ℕ) → In p k.places → P p) ks → (c : Counts) → Rest G ks c → Reached G P c
rest-reach G P [] y c g = record { d = c; good = g; least = λ p. omega arith; rest = λ p. inr refl }
rest-reach G P (k ∷ ks) (y, z) c w = ways-reach G (Rest G ks) P (rest-reach G P ks z) c k.times 0 k.places (λ p i l. y p i) w
