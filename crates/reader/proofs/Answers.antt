-- What a caller learns from an answer: the question that was asked.
use mathlib.Core.Path.{◌≡◌, refl, ap, ◌∙◌}
use mathlib.Core.List.{List}
use Prim.Native.Nat.{ℕ}
use native.Mathlib.Omega.{arith}
use Rattle.language.specs.declared.Refusal.{Refusal}
use Rattle.language.specs.Limits.{desk}
use Rattle.language.specs.Trees.{Question}
use Rattle.language.specs.Question.{Asked, asks, refuses, read_question}
use Rattle.std.specs.Prelude.{Result, Ok, Err, IsErrAnd}
use Rattle.std.proofs.lemmas.Result.{err_from_is_err_and}
use Rattle.outcomes.specs.Numbers.{checked_numbers}
use Rattle.outcomes.proofs.Apart.{checked-apart}
use Rattle.reader.specs.Checking.{checked, asked_numbers}

-- what `?` hands on is the refusal
pub handed : {T : Type 0} (r : Result T Refusal) (x : Refusal) → IsErrAnd r (λ y. y ≡ x) → r ≡ Err x
handed r x a = let e = err_from_is_err_and r a in e.1 ∙ ap Err e.2

-- the numbers tell what came of reading
pub as-checked : (c : Result (Unit {0}) Refusal) (a : Asked) → checked_numbers c ≡ asked_numbers a → c ≡ checked a
unfolding checked asked_numbers
as-checked c (asks q) e = checked-apart c (Ok tt) e
as-checked c (refuses r) e = checked-apart c (Err r) e

module _ (ws : List ℕ) where
  pub question-asked : Ok tt ≡ checked (read_question desk ws) → (q : Question) × (read_question desk ws ≡ asks q)
  unfolding checked
  question-asked e = on (read_question desk ws) refl e
    where
      on : (a : Asked) → read_question desk ws ≡ a → Ok tt ≡ checked a → (q : Question) × (read_question desk ws ≡ asks q)
      on (asks q) i e = (q, i)
      on (refuses r) i e = absurd (let z : ◌≡◌ {A = ℕ} 0 1 = cc in omega arith)

  pub question-refused : (r : Refusal) → Err r ≡ checked (read_question desk ws) → read_question desk ws ≡ refuses r
  unfolding checked
  question-refused r e = on (read_question desk ws) refl e
    where
      on : (a : Asked) → read_question desk ws ≡ a → Err r ≡ checked a → read_question desk ws ≡ refuses r
      on (asks q) i e = absurd (let z : ◌≡◌ {A = ℕ} 0 1 = cc in omega arith)
      on (refuses s) i e = let z : s ≡ r = cc in i ∙ ap refuses z
