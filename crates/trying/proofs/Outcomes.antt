-- The call, step by step: what each return answers and leaves.
use Prim.Native.Nat.{ℕ, ◌<◌, ◌≤◌}
use mathlib.Core.Path.{◌≡◌, refl, sym, ap, subst, ◌∙◌}
use mathlib.Core.Logic.{inl, inr}
use mathlib.Core.Bool.{Bool, true, false}
use mathlib.Core.List.{List}
use native.Mathlib.Omega.{arith}
use lib.ListN.{length}
use borrow.Author.Tests.{lt-ltb, le-ltb}
use Rattle.std.specs.Prelude.{Result, Ok, Err}
use Rattle.language.specs.declared.Refusal.{Refusal}
use Rattle.language.specs.declared.Refusal.TheVariants.{ShortSlice, LongLiteral}
use Rattle.language.specs.Limits.{desk}
use Rattle.language.specs.Trees.{signature, Question}
use Rattle.language.specs.Question.{counts_fit, Asked, asks, refuses, read_question}
use Rattle.language.proofs.Asking.{passed, ranges}
use Rattle.meaning.specs.Meaning.{Filling, MeetsOne}
use Rattle.meaning.specs.Values.{Given, gives, read_filling}
use Rattle.meaning.specs.Values as values
use Rattle.rules.specs.Answer.{zeros, overwritten}
use Rattle.rules.specs.Calls.{Trying, decides, given-up, trying_with, trying_of, trying}
use Rattle.header.specs.declared.Header.{Header}
use Rattle.header.specs.Heading.{header_of, counts_in}
use Rattle.reader.specs.Checking.{checked}
use Rattle.given.specs.Checking.{given}
use Rattle.trying.specs.Tasks.{AQuestion, SomeQuestion, FittingQuestion, QuestionTooLong, QuestionMet, AskedQuestion}
use Rattle.trying.specs.Outcome.{Answers, Outcome, ToldOutcome, TriedAsked, TriedGiven}
use Rattle.trying.proofs.Rooms.{keeps-cleared}
use Rattle.trying.proofs.Told.{told-outcome}

-- ---- neither refused

abbrev decided : Question → Filling → Bool → Trying
decided q ρ b = elim b [ true ↦ given-up LongLiteral | false ↦ decides q ρ ]

module _ (h : Header) (fs ws : List ℕ) where
  counts-are : (q : Question) → read_question desk ws ≡ asks q → h ≡ header_of ws → q.counts ≡ counts_in h
  counts-are q r e = (passed desk ws q r).counts ∙ ap counts_in (sym e)

  pub given-fits : {long : Bool} → QuestionTooLong h fs ws long → long ≡ false → SomeQuestion h fs ws → FittingQuestion h fs ws
  given-fits l e s = record { q = s.q; ρ = s.ρ; it = s.it; fits = sym (l.each s.q s.ρ s.it) ∙ e }

  module _ {w w' : List ℕ} {long : Bool} (l : QuestionTooLong h fs ws long) where
    pub given-long : long ≡ true → w' ≡ overwritten desk (zeros desk) w → TriedGiven h fs ws (Err LongLiteral) w w'
    given-long e c = record { each = λ q ρ x. subst (λ b. Outcome (decided q ρ b) (Err LongLiteral) w w') (sym e ∙ l.each q ρ x) (refl, c) }

    module _ {u : List ℕ} {met : Bool} (e : long ≡ false) (m : QuestionMet h fs ws w u met) (c : w' ≡ overwritten desk (zeros desk) u) where
      says : {t : Result Bool Refusal} → ((q : Question) (ρ : Filling) → AQuestion h fs ws q ρ → Answers (MeetsOne (signature (counts_in h)) ρ q.alternatives) t) → TriedGiven h fs ws t w w'
      says {t} a = record {
        each = λ q ρ x. subst (λ b. Outcome (decided q ρ b) t w w') (sym e ∙ l.each q ρ x)
            (subst (λ n. Answers (MeetsOne (signature n) ρ q.alternatives) t) (sym (counts-are q x.read x.head)) (a q ρ x), c ∙ keeps-cleared m.keeps);
      }

      pub given_yes : met ≡ true → TriedGiven h fs ws (Ok true) w w'
      given_yes y = says (λ q ρ x. let (to, from) = m.each q ρ x in inl (refl, to y))

      pub given-no : met ≡ false → TriedGiven h fs ws (Ok false) w w'
      given-no y = says (λ q ρ x. let (to, from) = m.each q ρ x in inr (refl, λ z. absurd (let o : ◌≡◌ {A = ℕ} 0 1 = cc (from z) in omega arith)))

  -- ---- the question is not refused

  pub asked-counts : AskedQuestion h ws → counts_fit desk (counts_in h) h.alternatives ≡ true
  asked-counts a = ap (λ h. counts_fit desk (counts_in h) h.alternatives) a.head ∙ (passed desk ws a.q a.read).counts-fit

  pub asked-refused : {w : List ℕ} {c : Result (Unit {0}) Refusal} {r : Refusal} → c ≡ given (read_filling desk (counts_in h) fs) → c ≡ Err r → TriedAsked h fs ws (Err r) w w
  unfolding given
  asked-refused {w} {c} {r} e f = record { each = λ q p i. on q (read_filling desk q.counts fs) (sym f ∙ e ∙ ap (λ n. given (read_filling desk n fs)) (sym (counts-are q p i))) }
    where
      on : (q : Question) (g : Given) → Err r ≡ given g → Outcome (trying_with desk q g) (Err r) w w
      on q (gives ρ) e = absurd (let z : ◌≡◌ {A = ℕ} 0 1 = cc in omega arith)
      on q (values.refuses s) e = let z : r ≡ s = cc in (ap Err z, refl)

  fine-gives : {c : Result (Unit {0}) Refusal} → c ≡ given (read_filling desk (counts_in h) fs) → c ≡ Ok tt → (ρ : Filling) × (read_filling desk (counts_in h) fs ≡ gives ρ)
  unfolding given
  fine-gives {c} e f = on (read_filling desk (counts_in h) fs) refl (sym f ∙ e)
    where
      on : (g : Given) → read_filling desk (counts_in h) fs ≡ g → Ok tt ≡ given g → (ρ : Filling) × (read_filling desk (counts_in h) fs ≡ gives ρ)
      on (gives ρ) i e = (ρ, i)
      on (values.refuses s) i e = absurd (let z : ◌≡◌ {A = ℕ} 0 1 = cc in omega arith)

  pub asked-some : {c : Result (Unit {0}) Refusal} → c ≡ given (read_filling desk (counts_in h) fs) → c ≡ Ok tt → AskedQuestion h ws → SomeQuestion h fs ws
  asked-some e f a = let (ρ, g) = fine-gives e f in record { q = a.q; ρ = ρ; it = record { read = a.read; head = a.head; given = g } }

  pub asked-given : {c : Result (Unit {0}) Refusal} {t : Result Bool Refusal} {w w' : List ℕ} → c ≡ given (read_filling desk (counts_in h) fs) → c ≡ Ok tt → TriedGiven h fs ws t w w' → TriedAsked h fs ws t w w'
  asked-given {t = t} {w} {w'} e f a = record {
    each = λ q p i.
        let (ρ, g) = fine-gives e f in
        subst (λ x. Outcome (trying_with desk q x) t w w') (sym (ap (λ n. read_filling desk n fs) (counts-are q p i) ∙ g)) (a.each q ρ (record { read = p; head = i; given = g }));
  }

-- ---- every input

module _ (ws fs w : List ℕ) where
  pub short-slice : length w < desk.room → ToldOutcome (trying desk (length w) ws fs) (Err ShortSlice) w w
  unfolding trying
  short-slice p = rw (trying, lt-ltb (length w) desk.room p) (refl, refl)

  module _ (p : desk.room ≤ length w) where
    reads_on : trying desk (length w) ws fs ≡ trying_of desk (read_question desk ws) fs
    unfolding trying
    reads_on = rw (trying, le-ltb (length w) desk.room p)

    pub refused-question : {c : Result (Unit {0}) Refusal} {r : Refusal} → c ≡ checked (read_question desk ws) → c ≡ Err r → ToldOutcome (trying desk (length w) ws fs) (Err r) w w
    unfolding checked
    refused-question {c} {r} e f = told-outcome (trying desk (length w) ws fs) (Err r) w w (subst (λ x. Outcome x (Err r) w w) (sym reads_on) (on (read_question desk ws) (sym f ∙ e)))
      where
        on : (a : Asked) → Err r ≡ checked a → Outcome (trying_of desk a fs) (Err r) w w
        on (asks q) e = absurd (let z : ◌≡◌ {A = ℕ} 0 1 = cc in omega arith)
        on (refuses s) e = let z : r ≡ s = cc in (ap Err z, refl)

    pub fine-asks : {c : Result (Unit {0}) Refusal} → c ≡ checked (read_question desk ws) → c ≡ Ok tt → (q : Question) × (read_question desk ws ≡ asks q)
    unfolding checked
    fine-asks {c} e f = on (read_question desk ws) refl (sym f ∙ e)
      where
        on : (a : Asked) → read_question desk ws ≡ a → Ok tt ≡ checked a → (q : Question) × (read_question desk ws ≡ asks q)
        on (asks q) i e = (q, i)
        on (refuses s) i e = absurd (let z : ◌≡◌ {A = ℕ} 0 1 = cc in omega arith)

    pub question-long : {c : Result (Unit {0}) Refusal} → c ≡ checked (read_question desk ws) → c ≡ Ok tt → 6 ≤ length ws
    question-long e f = let (q, i) = fine-asks e f in (ranges desk ws q i).long

    pub question-asked : {c : Result (Unit {0}) Refusal} {h : Header} → c ≡ checked (read_question desk ws) → c ≡ Ok tt → h ≡ header_of ws → AskedQuestion h ws
    question-asked e f g = let (q, i) = fine-asks e f in record { q = q; read = i; head = g }

    pub question-tried : {c : Result (Unit {0}) Refusal} {h : Header} {t : Result Bool Refusal} {w' : List ℕ} → c ≡ checked (read_question desk ws) → c ≡ Ok tt → h ≡ header_of ws → TriedAsked h fs ws t w w' → ToldOutcome (trying desk (length w) ws fs) t w w'
    question-tried {t = t} {w'} e f g a =
        let (q, i) = fine-asks e f in
        told-outcome (trying desk (length w) ws fs) t w w' (subst (λ x. Outcome x t w w') (sym (reads_on ∙ ap (λ x. trying_of desk x fs) i)) (a.each q i g))
