-- Results one after the other: how they are counted, and how they stand in a row.
use mathlib.Core.Path.{◌≡◌, refl, sym, subst, ap, ◌∙◌}
use mathlib.Core.Bool.{Bool, true, false}
use mathlib.Core.List.{List, [], ◌∷◌, map}
use Prim.Native.Nat.{ℕ, zero, suc, ◌+◌, ◌*◌, ◌-◌, ◌<◌, ◌≤◌}
use native.Mathlib.Decide.{dec_le}
use native.Mathlib.Numerals.{add-one}
use native.Mathlib.Omega.{arith}
use lib.Dec.{leb}
use lib.ListN.{length, length-append}
use borrow.Author.Tests.{le-leb, lt-leb}
use Rattle.std.specs.Prelude.{Option, Some, None}
use Rattle.language.specs.Limits.{desk}
use Rattle.language.specs.Kinds.{pick}
use Rattle.meaning.specs.Values.{numbers}
use Rattle.rules.specs.Elements.{factorial}
use Rattle.orders.specs.Orders.{plenty, some_orders}
use Rattle.orders.proofs.Orders.{counted-orders, orders-many}
use Rattle.plans.specs.Results.{made, numbered}
use Rattle.words.specs.Spans.{element_end, places}
use Rattle.frames.specs.Frames.{in_frame, in_frames}
use Rattle.plans.specs.Sizes.{Short, grown, sized_from}
use Rattle.plans.specs.declared.Recipe.{Recipe}
use Rattle.slices.proofs.Parts.{Split}

-- ---- counting

module _ (n : ℕ) (w : List ℕ) (ws : List (List ℕ)) (one : ℕ) (e : one ≡ length w) where
  pub size-over : desk.question < one → None ≡ sized_from n (w ∷ ws)
  size-over h =
      sym (ap (λ l. pick (leb l desk.question) (sized_from (grown n (length w)) ws) None) (sym e) ∙ ap (λ b. pick b (sized_from (grown n (length w)) ws) None) (lt-leb one desk.question h))

  pub size-more : one ≤ desk.question → (m : ℕ) → m ≡ grown n one → sized_from m ws ≡ sized_from n (w ∷ ws)
  size-more h m g =
      ap (λ m. sized_from m ws) (g ∙ ap (grown n) e)
      ∙ sym (ap (λ l. pick (leb l desk.question) (sized_from (grown n (length w)) ws) None) (sym e) ∙ ap (λ b. pick b (sized_from (grown n (length w)) ws) None) (le-leb one desk.question h))

-- one result and then others
abbrev pub then : Option ℕ → List (List ℕ) → Option ℕ
then None ws = None
then (Some n) ws = sized_from n ws

pub size-then : (n : ℕ) (w : List ℕ) (ws : List (List ℕ)) → then (sized_from n (w ∷ [])) ws ≡ sized_from n (w ∷ ws)
size-then n w ws = go (leb (length w) desk.question)
  where
    go : (b : Bool) → then (pick b (Some (grown n (length w))) None) ws ≡ pick b (sized_from (grown n (length w)) ws) None
    go true = refl
    go false = refl

-- two results
module _ (a b : List ℕ) (s : Option ℕ) (e : s ≡ sized_from 0 (a ∷ [])) where
  pub two-over : s ≡ None → None ≡ sized_from 0 (a ∷ b ∷ [])
  two-over f = sym (ap (λ s. then s (b ∷ [])) f) ∙ ap (λ s. then s (b ∷ [])) e ∙ size-then 0 a (b ∷ [])

  pub two-more : (n : ℕ) → s ≡ Some n → (t : Option ℕ) → t ≡ sized_from n (b ∷ []) → t ≡ sized_from 0 (a ∷ b ∷ [])
  two-more n f t g = g ∙ sym (ap (λ s. then s (b ∷ [])) f) ∙ ap (λ s. then s (b ∷ [])) e ∙ size-then 0 a (b ∷ [])

-- results in a row
pub framed-split : (number : ℕ) (w : List ℕ) (ws : List (List ℕ)) → Split (in_frames number (w ∷ ws)) (in_frame number w) (in_frames number ws)
framed-split number w ws = record { eq = refl }

-- ---- a result for each cut
abbrev pub cuts : List ℕ → Recipe → ℕ → ℕ → List (List ℕ)
cuts k r n c = map (made k r) (places n k c)

module _ (k : List ℕ) (r : Recipe) (n c : ℕ) where
  pub cuts-none : n ≡ 0 → cuts k r n c ≡ []
  unfolding places
  cuts-none e = ap (λ n. cuts k r n c) e

  module _ (left : ℕ) (some : n ≡ suc left) (d : ℕ) (e : d ≡ element_end k c) where
    cuts-cons : cuts k r n c ≡ made k r c ∷ cuts k r left d
    unfolding places
    cuts-cons = ap (λ m. cuts k r m c) some ∙ ap (λ d. made k r c ∷ cuts k r left d) (sym e)

    pub cuts-over : (m one : ℕ) → one ≡ length (made k r c) → desk.question < one → None ≡ sized_from m (cuts k r n c)
    cuts-over m one f h = size-over m (made k r c) (cuts k r left d) one f h ∙ ap (sized_from m) (sym cuts-cons)

    pub cuts-more : (m one : ℕ) → one ≡ length (made k r c) → one ≤ desk.question → (m' : ℕ) → m' ≡ grown m one
        → sized_from m' (cuts k r left d) ≡ sized_from m (cuts k r n c)
    cuts-more m one f h m' g = size-more m (made k r c) (cuts k r left d) one f h m' g ∙ ap (sized_from m) (sym cuts-cons)

    pub cuts-split : (number : ℕ) → Split (in_frames number (cuts k r n c)) (in_frame number (made k r c)) (in_frames number (cuts k r left d))
    cuts-split number = record { eq = ap (in_frames number) cuts-cons }

    pub cuts-short : Short (cuts k r n c) → (length (made k r c) ≤ desk.question) × Short (cuts k r left d)
    cuts-short s = subst Short cuts-cons s

-- all of them are left at first
pub cuts_all : (k : List ℕ) (r : Recipe) (n c : ℕ) → cuts k r n c ≡ cuts k r (n - 0) c
cuts_all k r n c = let z : n ≡ n - 0 = omega arith in ap (λ m. cuts k r m c) z

-- ---- a result for each number
abbrev pub alike : List ℕ → Recipe → ℕ → ℕ → List (List ℕ)
alike k r i n = map (numbered k r 0) (numbers i n)

module _ (k : List ℕ) (r : Recipe) (i n : ℕ) where
  pub alike-none : n ≤ i → alike k r i (n - i) ≡ []
  alike-none h = let z : n - i ≡ 0 = omega arith in ap (alike k r i) z

  module _ (h : i < n) where
    alike-cons : alike k r i (n - i) ≡ numbered k r 0 i ∷ alike k r (i + 1) (n - (i + 1))
    alike-cons = let z : n - i ≡ suc (n - (i + 1)) = omega arith in ap (alike k r i) z ∙ ap (λ j. numbered k r 0 i ∷ alike k r j (n - (i + 1))) (sym (add-one i))

    pub alike-split : (number : ℕ) → Split (in_frames number (alike k r i (n - i))) (in_frame number (numbered k r 0 i)) (in_frames number (alike k r (i + 1) (n - (i + 1))))
    alike-split number = record { eq = ap (in_frames number) alike-cons }

    pub alike-short : Short (alike k r i (n - i)) → (length (numbered k r 0 i) ≤ desk.question) × Short (alike k r (i + 1) (n - (i + 1)))
    alike-short s = subst Short alike-cons s

-- all of them from the first on
pub alike_all : (k : List ℕ) (r : Recipe) (n : ℕ) → alike k r 0 n ≡ alike k r 0 (n - 0)
alike_all k r n = let z : n ≡ n - 0 = omega arith in ap (alike k r 0) z

-- a room has frames for so many only
pub alike-few : (k : List ℕ) (r : Recipe) (number n i : ℕ) → 2 * n ≤ length (in_frames number (alike k r i n))
alike-few k r number zero i = omega arith
alike-few k r number (suc n) i =
    omega (arith, alike-few k r number n (suc i), length-append (in_frame number (numbered k r 0 i)) (in_frames number (alike k r (suc i) n)))

-- so they are counted whole
pub orders-few : (n : ℕ) → factorial n < plenty → {c : ℕ} → c ≡ some_orders n → factorial n ≡ c
orders-few n h {c} e = go (dec_le n 7)
  where
    go : Dec (n ≤ 7) → factorial n ≡ c
    go (yes p) = sym (counted-orders n p e)
    go (no p) = let m = orders-many n (omega arith) in absurd (omega arith)
