-- What a word of a hedge gives.
use Prim.Native.Nat.{ℕ, ◌+◌, ◌%◌, ◌/◌, ◌<◌, ◌≤◌}
use mathlib.Core.Path.{◌≡◌, refl, sym, ap, ◌∙◌}
use mathlib.Core.Bool.{Bool, true, false}
use mathlib.Core.List.{List, ◌++◌}
use native.Mathlib.Omega.{arith}
use lib.Dec.{ltb}
use borrow.Author.Tests.{eq-eqb, ne_eqb, lt-ltb, le-ltb, ltb-true, ltb-false}
use Rattle.language.specs.Kinds.{pick}
use Rattle.texts.specs.Writer.{digits}
use Rattle.write_text.specs.Laid.{Laid}
use Rattle.write_text.specs.Pieces.{given, four, hundreds_of, tens_of, first_of, second_of, closing_of, mark_of, letter_in, word_text}
use Rattle.write_text.proofs.Laid.{laid_as, laid-row, given-none, given-one}

-- ---- digits

module _ (n : ℕ) where
  abbrev are : Type 0
  are = four (hundreds_of n) (tens_of n) (48 + n % 10) 0 ≡ digits n

  one-digit : n < 10 → are
  unfolding digits four
  one-digit p =
      let m : 48 + n % 10 ≡ 48 + n = omega arith in
      rw (lt-ltb n 10 p, lt-ltb n 100 (omega arith), given-none 0 refl, m, given-one (48 + n) (omega arith))

  two_digits : 10 ≤ n → n < 100 → are
  unfolding digits four
  two_digits q p =
      let m : 48 + n / 10 % 10 ≡ 48 + n / 10 = omega arith in
      rw (le-ltb n 10 q, lt-ltb n 100 p, given-none 0 refl, m, given-one (48 + n / 10) (omega arith), given-one (48 + n % 10) (omega arith))

  three-digits : 100 ≤ n → are
  unfolding digits four
  three-digits q =
      rw (le-ltb n 10 (omega arith), le-ltb n 100 q, given-none 0 refl, given-one (48 + n / 10 / 10) (omega arith), given-one (48 + n / 10 % 10) (omega arith), given-one (48 + n % 10) (omega arith))

  digits_are : are
  digits_are = on (ltb n 10) (ltb n 100) refl refl
    where
      on : (b d : Bool) → ltb n 10 ≡ b → ltb n 100 ≡ d → are
      on true d e f = one-digit (ltb-true n 10 e)
      on false true e f = two_digits (ltb-false n 10 e) (ltb-true n 100 f)
      on false false e f = three-digits (ltb-false n 100 f)

-- ---- a word

module _ (s x : ℕ) where
  abbrev name : List ℕ
  name = four (first_of s) (second_of s) (mark_of x) (letter_in x) ++ digits (x % 1000)

  is-end : x ≡ 0 → word_text s x ≡ given (closing_of s)
  unfolding word_text
  is-end z = ap (λ t. pick t (given (closing_of s)) name) (eq-eqb x 0 z)

  is_name : (x ≡ 0 → ⊥) → word_text s x ≡ name
  unfolding word_text
  is_name z = ap (λ t. pick t (given (closing_of s)) name) (ne_eqb x 0 z)

  pub word_end : {stop at e : ℕ} {old new : List ℕ} {b : ℕ} → x ≡ 0 → b ≡ closing_of s → Laid stop old at (given b) new e → Laid stop old at (word_text s x) new e
  word_end z c l = laid_as (ap given c ∙ sym (is-end z)) l

  pub word-name : {stop at e : ℕ} {old mid new : List ℕ} {m a b c d h t o : ℕ} → (x ≡ 0 → ⊥) → a ≡ first_of s → b ≡ second_of s → c ≡ mark_of x → d ≡ letter_in x → h ≡ hundreds_of (x % 1000) → t ≡ tens_of (x % 1000) → o ≡ 48 + x % 1000 % 10
      → Laid stop old at (four a b c d) mid m → Laid stop mid m (four h t o 0) new e → Laid stop old at (word_text s x) new e
  word-name {stop} {at} {e} {old} {mid} {new} {m} {a} {b} {c} {d} {h} {t} {o} z pa pb pc pd ph pt po l k =
      laid_as
      (ap (λ a. four a b c d ++ four h t o 0) pa ∙ ap (λ b. four (first_of s) b c d ++ four h t o 0) pb ∙ ap (λ c. four (first_of s) (second_of s) c d ++ four h t o 0) pc ∙ ap (λ d. four (first_of s) (second_of s) (mark_of x) d ++ four h t o 0) pd
      ∙ ap (λ l. four (first_of s) (second_of s) (mark_of x) (letter_in x) ++ l) (ap (λ h. four h t o 0) ph ∙ ap (λ t. four (hundreds_of (x % 1000)) t o 0) pt ∙ ap (λ o. four (hundreds_of (x % 1000)) (tens_of (x % 1000)) o 0) po ∙ digits_are (x % 1000))
      ∙ sym (is_name z))
      (laid-row (four a b c d) (four h t o 0) l k)
