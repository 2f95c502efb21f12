-- A walk from element to element: how far it has gone, what it tells where it stops, and that this is one thing only.
use Prim.Native.Nat.{ℕ, ◌+◌, ◌<◌}
use mathlib.Core.Path.{◌≡◌, refl, sym, ap, ◌∙◌}
use mathlib.Core.Bool.{Bool, true, false}
use mathlib.Core.List.{List}
use native.Mathlib.Decide.{dec_lt}
use native.Mathlib.Numerals.{add-one}
use native.Mathlib.Omega.{arith}
use Rattle.words.specs.Spans.{element_end}
use Rattle.finds.specs.Places.{nth, Walked}

module _ (k : List ℕ) (at : ℕ) (stop : ℕ → Bool) where
  -- i is the n-th place, and the walk stops at none before it
  pub record Gone (n i : ℕ) : Type 0 where
    pub place : i ≡ nth k at n
    pub before : (m : ℕ) → m < n → stop (nth k at m) ≡ false

  -- the same where the places are not counted
  pub record Going (i : ℕ) : Type 0 where
    pub count : ℕ
    pub gone : Gone count i

module _ {k : List ℕ} {at : ℕ} {stop : ℕ → Bool} where
  pub gone-start : Gone k at stop 0 at
  unfolding nth
  gone-start = record { place = refl; before = λ m h. absurd (omega arith) }

  pub gone-on : {n i e : ℕ} → stop i ≡ false → e ≡ element_end k i → Gone k at stop n i → Gone k at stop (n + 1) e
  unfolding nth
  gone-on {n} {i} {e} s d g = record {
    place = d ∙ ap (element_end k) g.place ∙ ap (nth k at) (sym (add-one n));
    before = λ m h. go m (dec_lt m n) h;
  }
    where
      go : (m : ℕ) → Dec (m < n) → m < n + 1 → stop (nth k at m) ≡ false
      go m (yes p) h = g.before m p
      go m (no p) h = let e : m ≡ n = omega arith in ap (λ j. stop (nth k at j)) e ∙ ap stop (sym g.place) ∙ s

  pub gone-end : {A : Type 0} {told : ℕ → ℕ → A} {n i : ℕ} {r : A} → stop i ≡ true → r ≡ told n i → Gone k at stop n i → Walked k at stop told r
  gone-end {A} {told} {n} {i} s e g = record { count = n; before = g.before; here = ap stop (sym g.place) ∙ s; is = e ∙ ap (told n) g.place }

  pub going_start : Going k at stop at
  going_start = record { count = 0; gone = gone-start }

  pub going_on : {i e : ℕ} → stop i ≡ false → e ≡ element_end k i → Going k at stop i → Going k at stop e
  going_on s d g = record { count = g.count + 1; gone = gone-on s d g.gone }

  pub going_end : {A : Type 0} {told : ℕ → ℕ → A} {i : ℕ} {r : A} → stop i ≡ true → ((n : ℕ) → r ≡ told n i) → Going k at stop i → Walked k at stop told r
  going_end s e g = gone-end s (e g.count) g.gone

  -- ---- what is told is one thing only

  pub walked_one : {A : Type 0} {told : ℕ → ℕ → A} {r s : A} → Walked k at stop told r → Walked k at stop told s → r ≡ s
  walked_one {A} {told} {r} {s} v w = v.is ∙ ap (λ n. told n (nth k at n)) (go (dec_lt v.count w.count) (dec_lt w.count v.count)) ∙ sym w.is
    where
      go : Dec (v.count < w.count) → Dec (w.count < v.count) → v.count ≡ w.count
      go (yes p) d = absurd (let e = sym v.here ∙ w.before v.count p in let z : ◌≡◌ {A = ℕ} 0 1 = cc in omega arith)
      go (no p) (yes q) = absurd (let e = sym w.here ∙ v.before w.count q in let z : ◌≡◌ {A = ℕ} 0 1 = cc in omega arith)
      go (no p) (no q) = omega arith
