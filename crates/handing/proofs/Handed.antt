-- What the host gets, by the number that came back.
use Prim.Native.Nat.{ℕ, ◌+◌, ◌*◌, ◌≤◌, ◌<◌, min}
use mathlib.Core.Path.{◌≡◌, refl, ap, ◌∙◌}
use mathlib.Core.Bool.{Bool, true, false}
use mathlib.Core.List.{List, ◌++◌}
use native.Mathlib.Omega.{arith}
use lib.ListN.{take, drop, replicate}
use lib.Seq.{sets}
use lib.Dec.{leb}
use borrow.Author.Tests.{eq-eqb, ne_eqb, le-leb, lt-leb, leb-true, leb-false}
use Rattle.std.proofs.Math.Nat.{min-eq_left, min-eq_right}
use Rattle.language.specs.Kinds.{pick}
use Rattle.language.specs.declared.Refusal.{Refusal}
use Rattle.language.specs.Numbers.{number_of}
use Rattle.language.proofs.Numbering.{each_number}
use Rattle.word_bytes.specs.Bytes.{bytes_of}
use Rattle.handing.specs.Handed.{used, number_or, word_bytes, keeps_bytes, answer_out, trail_out}

module _ (most lent : ℕ) where
  pub used_all : lent ≤ most → used most lent ≡ lent
  unfolding used
  used_all h = simp (le-leb _ _ h)

  pub used-most : most < lent → used most lent ≡ most
  unfolding used
  used-most h = simp (lt-leb _ _ h)

  pub used-min : min lent most ≡ used most lent
  unfolding used
  used-min = by (leb lent most) refl
    where
      by : (b : Bool) → leb lent most ≡ b → min lent most ≡ pick b lent most
      by true e = min-eq_left (leb-true _ _ e)
      by false e = min-eq_right (omega (arith, leb-false _ _ e))

module _ (number value : ℕ) where
  pub number-value : number ≡ 0 → number_or number value ≡ 100 + value
  unfolding number_or
  number-value h = simp (eq-eqb _ _ h)

  pub number-refusal : (number ≡ 0 → ⊥) → number_or number value ≡ number
  unfolding number_or
  number-refusal h = simp (ne_eqb _ _ h)

pub number-refused : (r : Refusal) (value : ℕ) → number_or (number_of r) value ≡ number_of r
number-refused r value = let n = each_number r in number-refusal (number_of r) value (λ z. omega arith)

pub number-as : {k number value n v : ℕ} → k ≡ number_or number value → number ≡ n → value ≡ v → k ≡ number_or n v
number-as {value = value} {n = n} e p q = e ∙ ap (λ x. number_or x value) p ∙ ap (number_or n) q

module _ (number : ℕ) where
  pub keeps-none : number ≡ 0 → keeps_bytes number ≡ false
  unfolding keeps_bytes
  keeps-none h = simp (eq-eqb _ _ h)

  pub keeps-early : (number ≡ 0 → ⊥) → number ≤ 6 → keeps_bytes number ≡ true
  unfolding keeps_bytes
  keeps-early h l = simp (ne_eqb _ _ h, le-leb _ _ l)

  pub keeps-late : 6 < number → keeps_bytes number ≡ false
  unfolding keeps_bytes
  keeps-late l = simp (ne_eqb number 0 (λ z. omega arith), lt-leb _ _ l)

-- what is written, by the number

module _ (k : ℕ) (own a : List ℕ) where
  pub answer-kept : keeps_bytes k ≡ true → answer_out k own a ≡ a
  unfolding answer_out
  answer-kept h = simp h

  pub answer-put : keeps_bytes k ≡ false → answer_out k own a ≡ sets a 0 (bytes_of own)
  unfolding answer_out
  answer-put h = simp h

module _ (k steps : ℕ) (own b : List ℕ) where
  pub trail-kept : keeps_bytes k ≡ true → trail_out k steps own b ≡ b
  unfolding trail_out
  trail-kept h = simp h

  pub trail-put : keeps_bytes k ≡ false → k ≡ 0 → trail_out k steps own b ≡ sets b 0 (bytes_of (take (3 * steps) own))
  unfolding trail_out
  trail-put h z = simp (h, eq-eqb _ _ z)

  pub trail-cleared : keeps_bytes k ≡ false → (k ≡ 0 → ⊥) → trail_out k steps own b ≡ replicate (word_bytes b) 0 ++ drop (word_bytes b) b
  unfolding trail_out
  trail-cleared h z = simp (h, ne_eqb _ _ z)
