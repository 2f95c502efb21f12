-- Solving and trying refuse exactly for their first fault.
use Prim.Native.Nat.{ℕ, ◌<◌}
use mathlib.Core.Path.{◌≡◌, refl, sym, ap, ◌∙◌}
use mathlib.Core.Logic.{◌⊎◌, inl, inr}
use mathlib.Core.Bool.{Bool, true, false, ◌&&◌}
use mathlib.Core.List.{List}
use mathlib.Core.Option.{Option, none, some}
use native.Mathlib.Omega.{arith}
use borrow.Author.Tests.{ltb-true, ltb-false, leb-true, leb-false, eqb-true, eqb-false}
use lib.Dec.{leb, ltb, eqb}
use lib.ListN.{length, get_or}
use Rattle.language.specs.declared.Refusal.{Refusal}
use Rattle.language.specs.declared.Refusal.TheVariants.{ShortSlice, FillingLayout, FillingValue, LongLiteral}
use Rattle.language.specs.Limits.{desk}
use Rattle.language.specs.Numbers.{number_of, place_of}
use Rattle.language.specs.Trees.{Counts, signature, Question}
use Rattle.language.specs.Question.{Asked, asks, refuses, read_question, laid_out, parts}
use Rattle.language.proofs.Bools.{both_true}
use Rattle.meaning.specs.Complete.{Complete}
use Rattle.meaning.specs.Meaning.{Filling}
use Rattle.meaning.specs.Values.{Given, gives, read_filling, variables, forms, values_of, filling}
use Rattle.meaning.specs.Values as values
use Rattle.rules.specs.Run.{Outcome, finished, refused, run}
use Rattle.rules.specs.Answer.{Solving, answered, unread, given-up, ran, solving_of, solving}
use Rattle.rules.specs.Calls.{Trying, decides, too_long, trying_with, trying_of, trying}
use Rattle.rules.specs.Calls as calls
use Rattle.language.proofs.Numbering.{each_number}
use Rattle.demands.specs.Runs.{Stops, long-result, long-waiting, no-line-fits, no-step-left, long-walk}
use Rattle.demands.specs.Table.{QuestionFault, SolveFault, LayoutOff, TryFault, First}
use Rattle.demands.specs.Table as table
use Rattle.demands.proofs.Runs.{stopped-run, refused-stops}
use Rattle.demands.proofs.Faults.{either-false, Judged, question-judged, place_for, fault-place}

one-question : {a : Asked} {q r : Question} → a ≡ asks q → a ≡ asks r → q ≡ r
one-question d e = cc

not-asked : {A : Type 0} {a : Asked} {q : Question} {r : Refusal} → a ≡ refuses r → a ≡ asks q → A
not-asked d e = absurd (let z : ◌≡◌ {A = ℕ} 0 1 = cc in omega arith)

-- no number is below 1
nothing-before-1 : {A : Type 0} (d e : Refusal) → e ≡ ShortSlice → number_of d < number_of e → A
nothing-before-1 d e i p = absurd (let b = each_number d in let z = ap number_of i in omega arith)

-- ---- solving

module _ (work answer : ℕ) (ws : List ℕ) where
  abbrev Fault : Refusal → Type 0
  Fault = SolveFault work answer ws

  -- the first fault, or none
  abbrev pub SolveJudged : Solving → Type 0
  SolveJudged (answered ls n) = (e : Refusal) → Fault e → ⊥
  SolveJudged (unread r) = First Fault r
  SolveJudged (given-up r) = First Fault r

  pub solve-place : (d : Refusal) → Fault d → place_of d ≡ place_for ws (number_of d)
  solve-place d (table.short-slice e _) = ap place_of e ∙ sym (ap (λ r. place_for ws (number_of r)) e)
  solve-place d (table.in-question f) = fault-place ws d f
  solve-place d (table.in-run q read s) = on s
    where
      on : Stops desk (signature q.counts) q.alternatives d → place_of d ≡ place_for ws (number_of d)
      on (long-result e _ _ _ _ _ _) = ap place_of e ∙ sym (ap (λ r. place_for ws (number_of r)) e)
      on (long-waiting e _ _ _ _ _ _ _) = ap place_of e ∙ sym (ap (λ r. place_for ws (number_of r)) e)
      on (no-line-fits e _ _ _ _ _) = ap place_of e ∙ sym (ap (λ r. place_for ws (number_of r)) e)
      on (no-step-left e _ _ _ _ _) = ap place_of e ∙ sym (ap (λ r. place_for ws (number_of r)) e)
      on (long-walk e _ _ _ _) = ap place_of e ∙ sym (ap (λ r. place_for ws (number_of r)) e)

  short-first : (work < desk.room) ⊎ (answer < desk.room) → First Fault ShortSlice
  short-first o = record { here = table.short-slice refl o; none_before = λ d p f. nothing-before-1 d ShortSlice refl p }

  module _ (long : (work < desk.room) ⊎ (answer < desk.room) → ⊥) where
    at-run : (q : Question) → read_question desk ws ≡ asks q → ((d : Refusal) → QuestionFault ws d → ⊥) → (o : Outcome) → run desk (signature q.counts) q.alternatives ≡ o → SolveJudged (ran o)
    at-run q asked clear (finished ls n) e = ended
      where
        ended : (d : Refusal) → Fault d → ⊥
        ended d (table.short-slice i o) = long o
        ended d (table.in-question f) = clear d f
        ended d (table.in-run p read s) =
            let z = ap (λ (x : Question). run desk (signature x.counts) x.alternatives) (one-question asked read) in
            let y = stopped-run desk (signature p.counts) p.alternatives s in
            let x : ◌≡◌ {A = ℕ} 0 1 = cc in omega arith
    at-run q asked clear (refused r) e = record { here = table.in-run q asked (refused-stops desk (signature q.counts) q.alternatives r e); none_before = before }
      where
        before : (d : Refusal) → number_of d < number_of r → Fault d → ⊥
        before d l (table.short-slice i o) = long o
        before d l (table.in-question f) = clear d f
        before d l (table.in-run p read s) =
            let z = ap (λ (x : Question). run desk (signature x.counts) x.alternatives) (one-question asked read) in
            let y = stopped-run desk (signature p.counts) p.alternatives s in
            let x : r ≡ d = cc in
            let w = ap number_of x in omega arith

    at-asked : (a : Asked) → read_question desk ws ≡ a → Judged ws a → SolveJudged (solving_of desk a)
    at-asked (asks q) e clear = at-run q e clear (run desk (signature q.counts) q.alternatives) refl
    at-asked (refuses r) e first = record { here = table.in-question first.here; none_before = before }
      where
        before : (d : Refusal) → number_of d < number_of r → Fault d → ⊥
        before d l (table.short-slice i o) = long o
        before d l (table.in-question f) = first.none_before d l f
        before d l (table.in-run q read s) = not-asked e read

  pub solve-judged : SolveJudged (solving desk work answer ws)
  unfolding solving
  solve-judged = on-work (ltb work desk.room) refl
    where
      on-answer : ltb work desk.room ≡ false → (b : Bool) → ltb answer desk.room ≡ b → SolveJudged (elim b [ true ↦ unread ShortSlice | false ↦ solving_of desk (read_question desk ws) ])
      on-answer w true a = short-first (inr (ltb-true answer desk.room a))
      on-answer w false a = at-asked long (read_question desk ws) refl (question-judged ws)
        where
          long : (work < desk.room) ⊎ (answer < desk.room) → ⊥
          long (inl l) = let p = ltb-false work desk.room w in omega arith
          long (inr l) = let p = ltb-false answer desk.room a in omega arith

      on-work : (b : Bool) → ltb work desk.room ≡ b
          → SolveJudged (elim b [ true ↦ unread ShortSlice | false ↦ elim (ltb answer desk.room) [ true ↦ unread ShortSlice | false ↦ solving_of desk (read_question desk ws) ] ])
      on-work true w = short-first (inl (ltb-true work desk.room w))
      on-work false w = on-answer w (ltb answer desk.room) refl

-- ---- a filling's words

module _ (n : Counts) (fs : List ℕ) where
  -- 11, 12, or neither
  abbrev pub Given-as : Given → Type 0
  Given-as (gives ρ) = (LayoutOff n fs → ⊥) × (values_of desk n (forms n) (parts 1 (variables n) fs) ≡ none → ⊥)
  Given-as (values.refuses r) = ((r ≡ FillingLayout) × LayoutOff n fs) ⊎ ((r ≡ FillingValue) × (LayoutOff n fs → ⊥) × (values_of desk n (forms n) (parts 1 (variables n) fs) ≡ none))

  abbrev two : Bool
  two = leb (length fs) desk.filling && eqb (get_or fs 0 0) (variables n)

  layout-off : (two && laid_out 1 (variables n) fs) ≡ false → LayoutOff n fs
  layout-off e = go (either-false two (laid_out 1 (variables n) fs) e)
    where
      go₂ : (leb (length fs) desk.filling ≡ false) ⊎ (eqb (get_or fs 0 0) (variables n) ≡ false) → LayoutOff n fs
      go₂ (inl f) = inl (leb-false (length fs) desk.filling f)
      go₂ (inr f) = inr (inl (eqb-false (get_or fs 0 0) (variables n) f))

      go : (two ≡ false) ⊎ (laid_out 1 (variables n) fs ≡ false) → LayoutOff n fs
      go (inl f) = go₂ (either-false (leb (length fs) desk.filling) (eqb (get_or fs 0 0) (variables n)) f)
      go (inr f) = inr (inr f)

  layout-on : (two && laid_out 1 (variables n) fs) ≡ true → LayoutOff n fs → ⊥
  layout-on e o =
      let (t, l) = both_true two (laid_out 1 (variables n) fs) e in
      let (s, v) = both_true (leb (length fs) desk.filling) (eqb (get_or fs 0 0) (variables n)) t in
      go s v l o
    where
      go : leb (length fs) desk.filling ≡ true → eqb (get_or fs 0 0) (variables n) ≡ true → laid_out 1 (variables n) fs ≡ true → LayoutOff n fs → ⊥
      go s v l (inl p) = let q = leb-true (length fs) desk.filling s in omega arith
      go s v l (inr (inl p)) = p (eqb-true (get_or fs 0 0) (variables n) v)
      go s v l (inr (inr p)) = let z : ◌≡◌ {A = ℕ} 0 1 = cc in omega arith

  pub given-as : Given-as (read_filling desk n fs)
  unfolding read_filling
  given-as = on (two && laid_out 1 (variables n) fs) refl
    where
      on_values : (LayoutOff n fs → ⊥) → (m : Option (List Complete)) → values_of desk n (forms n) (parts 1 (variables n) fs) ≡ m
          → Given-as (elim m [ none ↦ values.refuses FillingValue | some vs ↦ gives (filling n vs) ])
      on_values l none e = inr (refl, l, e)
      on_values l (some vs) e = (l, λ d. absurd (let z : ◌≡◌ {A = ℕ} 0 1 = cc in omega arith))

      on : (b : Bool) → (two && laid_out 1 (variables n) fs) ≡ b
          → Given-as (elim b [ false ↦ values.refuses FillingLayout | true ↦ elim (values_of desk n (forms n) (parts 1 (variables n) fs)) [ none ↦ values.refuses FillingValue | some vs ↦ gives (filling n vs) ] ])
      on false e = inl (refl, layout-off e)
      on true e = on_values (layout-on e) (values_of desk n (forms n) (parts 1 (variables n) fs)) refl

-- ---- trying a filling

module _ (work : ℕ) (ws fs : List ℕ) where
  abbrev TryFaults : Refusal → Type 0
  TryFaults = TryFault work ws fs

  -- the first fault, or none
  abbrev pub TryJudged : Trying → Type 0
  TryJudged (decides q ρ) = (e : Refusal) → TryFaults e → ⊥
  TryJudged (calls.unread r) = First TryFaults r
  TryJudged (calls.given-up r) = First TryFaults r

  pub try-place : (d : Refusal) → TryFaults d → place_of d ≡ place_for ws (number_of d)
  try-place d (table.short-slice e _) = ap place_of e ∙ sym (ap (λ r. place_for ws (number_of r)) e)
  try-place d (table.in-question f) = fault-place ws d f
  try-place d (table.bad-layout e _ _ _) = ap place_of e ∙ sym (ap (λ r. place_for ws (number_of r)) e)
  try-place d (table.bad-value e _ _ _) = ap place_of e ∙ sym (ap (λ r. place_for ws (number_of r)) e)
  try-place d (table.long-literal e _ _ _ _ _) = ap place_of e ∙ sym (ap (λ r. place_for ws (number_of r)) e)

  module _ (long : work < desk.room → ⊥) where
    module _ (q : Question) (asked : read_question desk ws ≡ asks q) (clear : (d : Refusal) → QuestionFault ws d → ⊥) where
      at_size : (ρ : Filling) → read_filling desk q.counts fs ≡ gives ρ → (LayoutOff q.counts fs → ⊥) → (values_of desk q.counts (forms q.counts) (parts 1 (variables q.counts) fs) ≡ none → ⊥)
          → (b : Bool) → too_long desk ρ q.alternatives ≡ b → TryJudged (elim b [ true ↦ calls.given-up LongLiteral | false ↦ decides q ρ ])
      at_size ρ g laid fine true t = record { here = table.long-literal refl q ρ asked g t; none_before = before }
        where
          before : (d : Refusal) → number_of d < 13 → TryFaults d → ⊥
          before d l (table.short-slice i p) = long p
          before d l (table.in-question f) = clear d f
          before d l (table.bad-layout i p read o) = laid (rw (one-question asked read) o)
          before d l (table.bad-value i p read o) = let z = one-question asked read in fine (rw z o)
          before d l (table.long-literal i p τ read _ _) = let z = ap number_of i in omega arith
      at_size ρ g laid fine false t = clean
        where
          clean : (d : Refusal) → TryFaults d → ⊥
          clean d (table.short-slice i p) = long p
          clean d (table.in-question f) = clear d f
          clean d (table.bad-layout i p read o) = laid (rw (one-question asked read) o)
          clean d (table.bad-value i p read o) = let z = one-question asked read in fine (rw z o)
          clean d (table.long-literal i p τ read h o) = both (one-question asked read) h o
            where
              both : {p : Question} → q ≡ p → read_filling desk p.counts fs ≡ gives τ → too_long desk τ p.alternatives ≡ true → ⊥
              both z h o =
                  let h' : read_filling desk q.counts fs ≡ gives τ = rw z h in
                  let o' : too_long desk τ q.alternatives ≡ true = rw z o in
                  let same : ρ ≡ τ = cc in
                  let x : too_long desk ρ q.alternatives ≡ true = rw same o' in
                  let y : ◌≡◌ {A = ℕ} 0 1 = cc in omega arith

      at-given : (g : Given) → read_filling desk q.counts fs ≡ g → Given-as q.counts fs g → TryJudged (trying_with desk q g)
      at-given (gives ρ) e s = at_size ρ e s.0 s.1 (too_long desk ρ q.alternatives) refl
      at-given (values.refuses r) e (inl (i, o)) = record { here = table.bad-layout i q asked o; none_before = before }
        where
          before : (d : Refusal) → number_of d < number_of r → TryFaults d → ⊥
          before d l (table.short-slice j p) = long p
          before d l (table.in-question f) = clear d f
          before d l (table.bad-layout j p read _) = let z = ap number_of i in let y = ap number_of j in omega arith
          before d l (table.bad-value j p read _) = let z = ap number_of i in let y = ap number_of j in omega arith
          before d l (table.long-literal j p τ read _ _) = let z = ap number_of i in let y = ap number_of j in omega arith
      at-given (values.refuses r) e (inr (i, laid, o)) = record { here = table.bad-value i q asked o; none_before = before }
        where
          before : (d : Refusal) → number_of d < number_of r → TryFaults d → ⊥
          before d l (table.short-slice j p) = long p
          before d l (table.in-question f) = clear d f
          before d l (table.bad-layout j p read x) = laid (rw (one-question asked read) x)
          before d l (table.bad-value j p read _) = let z = ap number_of i in let y = ap number_of j in omega arith
          before d l (table.long-literal j p τ read _ _) = let z = ap number_of i in let y = ap number_of j in omega arith

    at-question : (a : Asked) → read_question desk ws ≡ a → Judged ws a → TryJudged (trying_of desk a fs)
    at-question (asks q) e clear = at-given q e clear (read_filling desk q.counts fs) refl (given-as q.counts fs)
    at-question (refuses r) e first = record { here = table.in-question first.here; none_before = before }
      where
        before : (d : Refusal) → number_of d < number_of r → TryFaults d → ⊥
        before d l (table.short-slice i o) = long o
        before d l (table.in-question f) = first.none_before d l f
        before d l (table.bad-layout i q read o) = not-asked e read
        before d l (table.bad-value i q read o) = not-asked e read
        before d l (table.long-literal i q ρ read g o) = not-asked e read

  pub try-judged : TryJudged (trying desk work ws fs)
  unfolding trying
  try-judged = on (ltb work desk.room) refl
    where
      on : (b : Bool) → ltb work desk.room ≡ b → TryJudged (elim b [ true ↦ calls.unread ShortSlice | false ↦ trying_of desk (read_question desk ws) fs ])
      on true w = record { here = table.short-slice refl (ltb-true work desk.room w); none_before = λ d p f. nothing-before-1 d ShortSlice refl p }
      on false w = at-question (λ l. let p = ltb-false work desk.room w in omega arith) (read_question desk ws) refl (question-judged ws)
