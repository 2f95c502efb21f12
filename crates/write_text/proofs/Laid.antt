-- Bytes written in a row.
use Prim.Native.Nat.{ℕ, ◌+◌, ◌≤◌, ◌<◌}
use mathlib.Core.Path.{◌≡◌, refl, sym, ap, ◌∙◌}
use mathlib.Core.List.{List, [], ◌∷◌, ◌++◌}
use native.Mathlib.Omega.{arith}
use borrow.Author.Tests.{eq-eqb, ne_eqb}
use lib.ListN.{length, set, length-append}
use lib.Seq.{sets}
use Rattle.language.specs.Kinds.{pick}
use Rattle.language.proofs.Stores.{sets-append, set_past}
use Rattle.write_text.specs.Laid.{Laid}
use Rattle.write_text.specs.Pieces.{given, four}

pub laid_none : {stop : ℕ} {old : List ℕ} {at : ℕ} → Laid stop old at [] old at
laid_none = record { end = omega arith; list = λ p. refl }

pub laid_as : {stop : ℕ} {old new : List ℕ} {at e : ℕ} {us vs : List ℕ} → us ≡ vs → Laid stop old at us new e → Laid stop old at vs new e
laid_as p a = rw p at a

-- and then the next
pub laid-row : {stop : ℕ} {old mid new : List ℕ} {at m e : ℕ} (us vs : List ℕ) → Laid stop old at us mid m → Laid stop mid m vs new e → Laid stop old at (us ++ vs) new e
laid-row {stop} {old} {mid} {new} {at} {m} {e} us vs a b =
    let n = length-append us vs in
    let p = a.end in
    let q = b.end in
    record { end = omega arith; list = λ l. b.list (omega arith) ∙ ap (λ l. sets l m vs) (a.list (omega arith)) ∙ ap (λ i. sets (sets old at us) i vs) (let z : m ≡ at + length us = omega arith in z) ∙ sym (sets-append us vs old at) }

-- ---- one byte

pub given-none : (x : ℕ) → x ≡ 0 → given x ≡ []
unfolding given
given-none x e = ap (λ b. pick b [] (x ∷ [])) (eq-eqb x 0 e)

pub given-one : (x : ℕ) → (x ≡ 0 → ⊥) → given x ≡ x ∷ []
unfolding given
given-one x e = ap (λ b. pick b [] (x ∷ [])) (ne_eqb x 0 e)

module _ {stop at x : ℕ} {old : List ℕ} where
  pub put-none : x ≡ 0 → Laid stop old at (given x) old at
  put-none e = laid_as (sym (given-none x e)) laid_none

  pub put-past : (x ≡ 0 → ⊥) → stop ≤ at → Laid stop old at (given x) old at
  put-past e p = laid_as (sym (given-one x e)) (record { end = omega arith; list = λ l. absurd (omega arith) })

  pub put-here : (x ≡ 0 → ⊥) → at < stop → at < length old → Laid stop old at (given x) (set old at x) (at + 1)
  put-here e p q = laid_as (sym (given-one x e)) (record { end = omega arith; list = λ l. refl })

  pub put-over : (x ≡ 0 → ⊥) → at < stop → length old ≤ at → Laid stop old at (given x) old (at + 1)
  put-over e p q = laid_as (sym (given-one x e)) (record { end = omega arith; list = λ l. sym (set_past old at x q) })

pub four-row : {stop at i j k e : ℕ} {l₀ l₁ l₂ l₃ l₄ : List ℕ} (a b c d : ℕ) → Laid stop l₀ at (given a) l₁ i → Laid stop l₁ i (given b) l₂ j → Laid stop l₂ j (given c) l₃ k → Laid stop l₃ k (given d) l₄ e
    → Laid stop l₀ at (four a b c d) l₄ e
unfolding four
four-row a b c d p q r s = laid-row (given a) (given b ++ (given c ++ given d)) p (laid-row (given b) (given c ++ given d) q (laid-row (given c) (given d) r s))
