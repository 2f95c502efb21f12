-- Parts of a list: word by word, and where the words from a place on are known.
use mathlib.Core.Path.{◌≡◌, refl, sym, ap, ◌∙◌}
use mathlib.Core.Bool.{true, false, ◌||◌}
use mathlib.Core.List.{List, [], ◌∷◌, ◌++◌}
use Prim.Native.Nat.{ℕ, zero, suc, ◌+◌, ◌<◌, ◌≤◌}
use native.Mathlib.Decide.{dec_lt}
use native.Mathlib.Numerals.{add-one}
use native.Mathlib.Omega.{arith}
use lib.ListN.{length, get_or, take, drop, drop_of_length-le, get_or-eq_default}
use lib.Seq.{slice, drop-cons, drop-drop, get_or-take, get_or-drop, take-length, take-append_seam, drop-append_seam}
use borrow.Author.Tests.{eq-eqb, ne_eqb}
use Rattle.words.specs.Spans.{member}

-- ---- word by word

below-take : (t : ℕ) (k : List ℕ) (i : ℕ) → i < t → i < length k → i < length (take t k)
below-take zero k i p q = absurd (omega arith)
below-take (suc t) [] i p q = absurd (omega arith)
below-take (suc t) (x ∷ k) zero p q = omega arith
below-take (suc t) (x ∷ k) (suc i) p q = let h = below-take t k i (omega arith) (omega arith) in omega arith

pub take_short : (t : ℕ) (k : List ℕ) → (length (take t k) ≤ t) × (length (take t k) ≤ length k)
take_short zero k = (omega arith, omega arith)
take_short (suc t) [] = (omega arith, omega arith)
take_short (suc t) (x ∷ k) = let h = take_short t k in (omega arith, omega arith)

-- a part begins with its first word; it is nothing from its end on, or past the list
pub part-cons : (k : List ℕ) (i t : ℕ) → i < t → i < length k → slice i t k ≡ get_or k i 0 ∷ slice (i + 1) t k
part-cons k i t p q =
    drop-cons (take t k) i 0 (below-take t k i p q)
    ∙ ap (λ a. a ∷ drop (suc i) (take t k)) (get_or-take t k i 0 p) ∙ ap (λ n. get_or k i 0 ∷ drop n (take t k)) (sym (add-one i))

pub part_none : (k : List ℕ) (i t : ℕ) → t ≤ i → slice i t k ≡ []
part_none k i t p = let h = take_short t k in drop_of_length-le (take t k) {i = i} (omega arith)

pub part-past : (k : List ℕ) (i t : ℕ) → length k ≤ i → slice i t k ≡ []
part-past k i t p = let h = take_short t k in drop_of_length-le (take t k) {i = i} (omega arith)

-- the words from a place to the length are all from there on
pub part-rest : (k : List ℕ) (i t : ℕ) → t ≡ length k → slice i t k ≡ drop i k
part-rest k i t e = ap (λ n. drop i (take n k)) e ∙ ap (drop i) (take-length k)

pub drop_here : (k : List ℕ) (i : ℕ) → i < length k → drop i k ≡ get_or k i 0 ∷ drop (i + 1) k
drop_here k i h = rw (add-one, drop-cons k i 0)

-- a word that is not 0 stands in the list
pub below-of-word : (k : List ℕ) (i : ℕ) → (get_or k i 0 ≡ 0 → ⊥) → i < length k
below-of-word k i nz = go (dec_lt i (length k))
  where
    go : Dec (i < length k) → i < length k
    go (yes p) = p
    go (no p) = absurd (nz (get_or-eq_default k 0 (omega arith)))

-- ---- a word in a part

module _ (k : List ℕ) (x i t : ℕ) where
  pub member-none : t ≤ i → false ≡ member x (slice i t k)
  member-none p = ap (member x) (sym (part_none k i t p))

  pub member-past : length k ≤ i → false ≡ member x (slice i t k)
  member-past p = ap (member x) (sym (part-past k i t p))

  pub member-here : i < t → i < length k → get_or k i 0 ≡ x → true ≡ member x (slice i t k)
  member-here p q e = sym (ap (member x) (part-cons k i t p q) ∙ ap (λ b. b || member x (slice (i + 1) t k)) (eq-eqb _ _ e))

  pub member-next : i < t → i < length k → (get_or k i 0 ≡ x → ⊥) → member x (slice (i + 1) t k) ≡ member x (slice i t k)
  member-next p q e = sym (ap (member x) (part-cons k i t p q) ∙ ap (λ b. b || member x (slice (i + 1) t k)) (ne_eqb _ _ e))

-- ---- the words from a place on are known

take-drop : (i n : ℕ) (k : List ℕ) → drop i (take (i + n) k) ≡ take n (drop i k)
take-drop zero n k = let e : zero + n ≡ n = omega arith in ap (λ m. take m k) e
take-drop (suc i) n [] = ap (λ m. drop (suc i) (take m [])) e ∙ sym (nothing n)
  where
    e : suc i + n ≡ suc (i + n)
    e = omega arith

    nothing : (m : ℕ) → ◌≡◌ {A = List ℕ} (take m []) []
    nothing zero = refl
    nothing (suc m) = refl
take-drop (suc i) n (x ∷ k) = let e : suc i + n ≡ suc (i + n) = omega arith in ap (λ m. drop (suc i) (take m (x ∷ k))) e ∙ take-drop i n k

module _ (k : List ℕ) (i t : ℕ) (ws beyond : List ℕ) (e : drop i k ≡ ws ++ beyond) (d : t ≡ i + length ws) where
  pub part_of : slice i t k ≡ ws
  part_of = ap (λ m. drop i (take m k)) d ∙ take-drop i (length ws) k ∙ ap (take (length ws)) e ∙ take-append_seam ws beyond

  pub drop_of : drop t k ≡ beyond
  drop_of = ap (λ m. drop m k) d ∙ sym (drop-drop (length ws) i k) ∙ ap (drop (length ws)) e ∙ drop-append_seam ws beyond

pub word-of : (k : List ℕ) (i : ℕ) (ws : List ℕ) → drop i k ≡ ws → get_or k i 0 ≡ get_or ws 0 0
word-of k i ws e = let z : i + 0 ≡ i = omega arith in sym (get_or-drop i k 0 0 ∙ ap (λ m. get_or k m 0) z) ∙ ap (λ l. get_or l 0 0) e
