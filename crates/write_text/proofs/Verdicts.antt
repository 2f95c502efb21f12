-- What writing a text comes to, by what the checks of the question, its numbers and the room found.
use Prim.Native.Nat.{ℕ, ◌+◌, ◌-◌, ◌≤◌, ◌<◌}
use mathlib.Core.Path.{◌≡◌, sym, ap, ◌∙◌}
use mathlib.Core.Bool.{Bool, true, false, not}
use mathlib.Core.List.{List}
use native.Mathlib.Omega.{arith}
use lib.ListN.{length}
use borrow.Author.Tests.{le-leb, lt-leb}
use Rattle.language.specs.declared.Refusal.{Refusal}
use Rattle.language.specs.declared.Refusal.TheVariants.{LongText, OtherNumbers}
use Rattle.language.specs.Limits.{desk}
use Rattle.language.specs.Kinds.{pick}
use Rattle.language.specs.Trees.{Question}
use Rattle.language.specs.Question.{asks, refuses, read_question}
use Rattle.language.proofs.Bools.{holds, fails}
use Rattle.std.specs.Prelude.{Result, Ok, Err}
use Rattle.outcomes.specs.Numbers.{checked_numbers}
use Rattle.reader.specs.Checking.{asked_numbers}
use Rattle.reader.proofs.Answers.{as-checked, question-asked, question-refused}
use Rattle.texts.specs.Writer.{all_text}
use Rattle.texts.specs.Outcomes.{Outcome, gives, denies, as_read, lent, writes_text}
use Rattle.write_text.specs.Standing.{IsQuestion, AllLined, Numbered}
use Rattle.write_text.specs.Writes.{written_by, left_by}

-- ---- the question's check

module _ (w : List ℕ) where
  pub fine-question : (c : Result (Unit {0}) Refusal) → checked_numbers c ≡ asked_numbers (read_question desk w) → c ≡ Ok tt → IsQuestion w
  fine-question c e f = let (q, i) = question-asked w (sym f ∙ as-checked c _ e) in record { question = q; read = i }

  -- ---- what comes back, and what the room holds

  abbrev pub Ends : List ℕ → Result ℕ Refusal → List ℕ → Type 0
  Ends room v left = (v ≡ written_by (writes_text desk (length room) w)) × (left ≡ left_by (writes_text desk (length room) w) room)

  ends : (room : List ℕ) (o : Outcome) → writes_text desk (length room) w ≡ o → Ends room (written_by o) (left_by o room)
  ends room o e = (ap written_by (sym e), ap (λ o. left_by o room) (sym e))

  pub denied : (room : ℕ) (r : Refusal) → read_question desk w ≡ refuses r → writes_text desk room w ≡ denies r
  unfolding writes_text
  denied room r e = rw (writes_text, e)

  pub wrote : (room : ℕ) (q : Question) → read_question desk w ≡ asks q → writes_text desk room w ≡ pick (as_read q) (lent room (all_text q.alternatives)) (denies OtherNumbers)
  unfolding writes_text
  wrote room q e = rw (writes_text, e)

  fits : (room : ℕ) (t : List ℕ) → length t ≤ room → lent room t ≡ gives t
  unfolding lent
  fits room t p = ap (λ b. pick b (gives t) (denies LongText)) (le-leb (length t) room p)

  too_long : (room : ℕ) (t : List ℕ) → room < length t → lent room t ≡ denies LongText
  unfolding lent
  too_long room t p = ap (λ b. pick b (gives t) (denies LongText)) (lt-leb (length t) room p)

  pub ends-refused : {room : List ℕ} {r : Refusal} (c : Result (Unit {0}) Refusal) → checked_numbers c ≡ asked_numbers (read_question desk w) → c ≡ Err r → Ends room (written_by (denies r)) room
  ends-refused {room} {r} c e f = ends room (denies r) (denied (length room) r (question-refused w r (sym f ∙ as-checked c _ e)))

  abbrev text_of : IsQuestion w → List ℕ
  text_of q = all_text q.question.alternatives

  module _ (q : IsQuestion w) {r : Bool} (n : Numbered w r) where
    pub ends-unnumbered : {room : List ℕ} → not r ≡ true → Ends room (written_by (denies OtherNumbers)) room
    ends-unnumbered {room} f =
        ends room (denies OtherNumbers) (wrote (length room) q.question q.read ∙ ap (λ b. pick b (lent (length room) (text_of q)) (denies OtherNumbers)) (fails r _ (n q.question q.read) f))

    module _ (f : not r ≡ false) {none next : List ℕ} {stop e : ℕ} (l : AllLined stop w none next e) where
      lends : (room : List ℕ) → writes_text desk (length room) w ≡ lent (length room) (text_of q)
      lends room = wrote (length room) q.question q.read ∙ ap (λ b. pick b (lent (length room) (text_of q)) (denies OtherNumbers)) (holds r _ (n q.question q.read) f)

      reached : e ≡ 0 + (length (text_of q) - (0 + length (text_of q) - stop))
      reached = (l q.question q.read).end

      pub ends-long : {room : List ℕ} → stop ≡ length room + 1 → e ≡ stop → Ends room (written_by (denies LongText)) room
      ends-long {room} s p = let c = reached in ends room (denies LongText) (lends room ∙ too_long (length room) (text_of q) (omega arith))

      pub ends-written : {room new : List ℕ} {e' : ℕ} → stop ≡ length room + 1 → (e ≡ stop → ⊥) → AllLined stop w room new e' → Ends room (Ok e) new
      ends-written {room} {new} {e'} s p k =
          let c = reached in
          let i : length (text_of q) ≤ length room = omega arith in
          let o = ends room (gives (text_of q)) (lends room ∙ fits (length room) (text_of q) i) in
          let y : e ≡ length (text_of q) = omega arith in
          (ap Ok y ∙ o.0, (k q.question q.read).list (omega arith) ∙ o.1)
