-- Two parts compared word by word.
use mathlib.Core.Path.{◌≡◌, refl, sym, ap, ap₂, ◌∙◌}
use mathlib.Core.Bool.{true, false, ◌&&◌, false≢true}
use mathlib.Core.List.{List, [], ◌∷◌}
use Prim.Native.Nat.{ℕ, ◌+◌, ◌<◌, ◌≤◌, min}
use native.Mathlib.Decide.{dec_le}
use native.Mathlib.Nat.{min-le_left, min-le_right}
use native.Mathlib.Omega.{arith}
use lib.Dec.{leb}
use lib.ListN.{length, get_or, take, length-take, drop_of_length-le}
use lib.Seq.{slice}
use borrow.Author.Tests.{eq-eqb, eqb-true, ne_eqb, le-leb, lt-leb}
use Rattle.language.proofs.Bools.{both_true}
use Rattle.words.specs.Places.{same_list}
use Rattle.words.proofs.Parts.{part-cons}

-- ---- the test of two lists

pub list-refl : (ws : List ℕ) → same_list ws ws ≡ true
list-refl [] = refl
list-refl (w ∷ ws) = rw (eq-eqb w w refl) (list-refl ws)

pub list-is : (us vs : List ℕ) → same_list us vs ≡ true → us ≡ vs
list-is [] [] e = refl
list-is [] (v ∷ vs) e = absurd (false≢true e)
list-is (u ∷ us) [] e = absurd (false≢true e)
list-is (u ∷ us) (v ∷ vs) e = let p = both_true _ (same_list us vs) e in ap₂ ◌∷◌ (eqb-true u v p.0) (list-is us vs p.1)

-- ---- of two parts

part-over : (k : List ℕ) (i t : ℕ) → min t (length k) ≤ i → slice i t k ≡ []
part-over k i t h = let e = length-take t k in drop_of_length-le (take t k) {i = i} (omega arith)

part-more : (k : List ℕ) (i t : ℕ) → i < min t (length k) → slice i t k ≡ get_or k i 0 ∷ slice (i + 1) t k
part-more k i t h = let a = min-le_left t (length k) in let b = min-le_right t (length k) in part-cons k i t (omega arith) (omega arith)

-- two parts: m and n are the places where they end
module _ (k : List ℕ) (i t j u : ℕ) {m n : ℕ} (p : m ≡ min t (length k)) (q : n ≡ min u (length k)) where
  both : {xs ys : List ℕ} → slice i t k ≡ xs → slice j u k ≡ ys → same_list (slice i t k) (slice j u k) ≡ same_list xs ys
  both {xs} {ys} e d = ap (λ w. same_list w (slice j u k)) e ∙ ap (same_list xs) d

  pub same-short : i < m → n ≤ j → false ≡ same_list (slice i t k) (slice j u k)
  same-short a b = sym (both (part-more k i t (omega arith)) (part-over k j u (omega arith)))

  pub same-differ : i < m → j < n → (get_or k i 0 ≡ get_or k j 0 → ⊥) → false ≡ same_list (slice i t k) (slice j u k)
  same-differ a b e = sym (both (part-more k i t (omega arith)) (part-more k j u (omega arith)) ∙ ap (λ c. c && same_list (slice (i + 1) t k) (slice (j + 1) u k)) (ne_eqb _ _ e))

  pub same_next : i < m → j < n → get_or k i 0 ≡ get_or k j 0 → same_list (slice (i + 1) t k) (slice (j + 1) u k) ≡ same_list (slice i t k) (slice j u k)
  same_next a b e = sym (both (part-more k i t (omega arith)) (part-more k j u (omega arith)) ∙ ap (λ c. c && same_list (slice (i + 1) t k) (slice (j + 1) u k)) (eq-eqb _ _ e))

  pub same_end : m ≤ i → leb n j ≡ same_list (slice i t k) (slice j u k)
  same_end a = go (dec_le n j)
    where
      go : Dec (n ≤ j) → leb n j ≡ same_list (slice i t k) (slice j u k)
      go (yes b) = le-leb n j b ∙ sym (both (part-over k i t (omega arith)) (part-over k j u (omega arith)))
      go (no b) = lt-leb n j (omega arith) ∙ sym (both (part-over k i t (omega arith)) (part-more k j u (omega arith)))
