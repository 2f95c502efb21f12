-- The numbers of an answer tell its cases apart: the answer is read back off them.
use Prim.Native.Nat.{ℕ}
use mathlib.Core.Path.{◌≡◌, refl, sym, ap, ap₂, ◌∙◌}
use lib.Dec.{eqb}
use Rattle.std.specs.Prelude.{Result, Ok, Err, Bool, true, false}
use Rattle.language.specs.declared.Refusal.{Refusal}
use Rattle.language.specs.declared.Refusal.TheVariants.{ShortSlice, QuestionLength, CountRange, BadOffset, NotLiterals, Undeclared, LongResult, LongWaiting, LineRoom, StepLimit, FillingLayout, FillingValue, LongLiteral, NoSuchLine, OpenLine, LongExample, NotText, ManyNames, LongText, OtherNumbers, LongWalk, SheetLayout, LongAnswers, BadStep, ShortTrail, LongTrail, TrailRoom}
use Rattle.language.specs.Kinds.{pick}
use Rattle.language.specs.Numbers.{number_of, place_of}
use Rattle.outcomes.specs.Numbers.{checked_numbers, outcome_number, outcome_place, outcome_value, SolveNumbers, solved_numbers, tried_numbers, shown_numbers}
use Rattle.outcomes.specs.declared.Outcome.{Outcome}
use Rattle.outcomes.specs.declared.Outcome.TheVariants.{Refused, NoLine, AllSolved, SomeOpen}
use Rattle.outcomes.specs.declared.Solved.{Solved}

-- ---- refusals

abbrev refusal_of : ℕ → ℕ → Refusal
refusal_of n at =
    pick (eqb n 1) ShortSlice (pick (eqb n 2) QuestionLength (pick (eqb n 3) CountRange (pick (eqb n 4) BadOffset
    (pick (eqb n 5) (NotLiterals at) (pick (eqb n 6) (Undeclared at) (pick (eqb n 7) LongResult (pick (eqb n 8) LongWaiting
    (pick (eqb n 9) LineRoom (pick (eqb n 10) StepLimit (pick (eqb n 11) FillingLayout (pick (eqb n 12) FillingValue
    (pick (eqb n 13) LongLiteral (pick (eqb n 14) NoSuchLine (pick (eqb n 15) OpenLine
    (pick (eqb n 16) LongExample (pick (eqb n 17) NotText (pick (eqb n 18) ManyNames (pick (eqb n 19) LongText
    (pick (eqb n 20) OtherNumbers (pick (eqb n 21) LongWalk (pick (eqb n 22) SheetLayout (pick (eqb n 23) LongAnswers
    (pick (eqb n 26) BadStep (pick (eqb n 27) ShortTrail (pick (eqb n 28) LongTrail TrailRoom)))))))))))))))))))))))))

-- `none` where the number is 0, and else the refusal of that number and place
abbrev told : {A : Type 0} → A → (Refusal → A) → ℕ → ℕ → A
told none refused n at = pick (eqb n 0) none (refused (refusal_of n at))

told-refused : {A : Type 0} (none : A) (refused : Refusal → A) (r : Refusal) → told none refused (number_of r) (place_of r) ≡ refused r
told-refused none refused ShortSlice = refl
told-refused none refused QuestionLength = refl
told-refused none refused CountRange = refl
told-refused none refused BadOffset = refl
told-refused none refused (NotLiterals at) = refl
told-refused none refused (Undeclared at) = refl
told-refused none refused LongResult = refl
told-refused none refused LongWaiting = refl
told-refused none refused LineRoom = refl
told-refused none refused StepLimit = refl
told-refused none refused FillingLayout = refl
told-refused none refused FillingValue = refl
told-refused none refused LongLiteral = refl
told-refused none refused NoSuchLine = refl
told-refused none refused OpenLine = refl
told-refused none refused LongExample = refl
told-refused none refused NotText = refl
told-refused none refused ManyNames = refl
told-refused none refused LongText = refl
told-refused none refused OtherNumbers = refl
told-refused none refused LongWalk = refl
told-refused none refused SheetLayout = refl
told-refused none refused LongAnswers = refl
told-refused none refused BadStep = refl
told-refused none refused ShortTrail = refl
told-refused none refused LongTrail = refl
told-refused none refused TrailRoom = refl

pub refusals-apart : (r s : Refusal) → number_of r ≡ number_of s → place_of r ≡ place_of s → r ≡ s
refusals-apart r s e f = sym (told-refused r (λ x. x) r) ∙ ap₂ (told r (λ x. x)) e f ∙ told-refused r (λ x. x) s

-- ---- reading

abbrev checked_by : ℕ × ℕ → Result (Unit {0}) Refusal
checked_by n = told (Ok tt) Err n.0 n.1

checked-back : (c : Result (Unit {0}) Refusal) → checked_by (checked_numbers c) ≡ c
checked-back (Ok u) = refl
checked-back (Err r) = told-refused (Ok tt) Err r

pub checked-apart : (c d : Result (Unit {0}) Refusal) → checked_numbers c ≡ checked_numbers d → c ≡ d
checked-apart c d e = sym (checked-back c) ∙ ap checked_by e ∙ checked-back d

-- ---- solving

abbrev outcome_by : ℕ → ℕ → ℕ → Outcome
outcome_by n at v = told (pick (eqb v 0) NoLine (pick (eqb v 1) AllSolved SomeOpen)) Refused n at

outcome-back : (o : Outcome) → outcome_by (outcome_number o) (outcome_place o) (outcome_value o) ≡ o
outcome-back (Refused r) = told-refused NoLine Refused r
outcome-back NoLine = refl
outcome-back AllSolved = refl
outcome-back SomeOpen = refl

abbrev solved_by : SolveNumbers → Solved
solved_by n = record { outcome = outcome_by n.number n.place n.value; lines = n.lines; «open» = n.opened; steps = n.steps }

solved-back : (s : Solved) → solved_by (solved_numbers s) ≡ s
solved-back s = ap (λ o. record { outcome = o; lines = s.lines; «open» = s.«open»; steps = s.steps }) (outcome-back s.outcome)

pub solved-apart : (s t : Solved) → solved_numbers s ≡ solved_numbers t → s ≡ t
solved-apart s t e = sym (solved-back s) ∙ ap solved_by e ∙ solved-back t

-- ---- trying a filling

abbrev tried_by : ℕ × ℕ × ℕ → Result Bool Refusal
tried_by n = told (pick (eqb n.2 0) (Ok false) (Ok true)) Err n.0 n.1

tried-back : (t : Result Bool Refusal) → tried_by (tried_numbers t) ≡ t
tried-back (Ok true) = refl
tried-back (Ok false) = refl
tried-back (Err r) = told-refused (Ok false) Err r

pub tried-apart : (t u : Result Bool Refusal) → tried_numbers t ≡ tried_numbers u → t ≡ u
tried-apart t u e = sym (tried-back t) ∙ ap tried_by e ∙ tried-back u

-- ---- the example of a line

abbrev shown_by : ℕ × ℕ × ℕ → Result ℕ Refusal
shown_by n = told (Ok n.2) Err n.0 n.1

shown-back : (s : Result ℕ Refusal) → shown_by (shown_numbers s) ≡ s
shown-back (Ok n) = refl
shown-back (Err r) = told-refused (Ok 0) Err r

pub shown-apart : (s t : Result ℕ Refusal) → shown_numbers s ≡ shown_numbers t → s ≡ t
shown-apart s t e = sym (shown-back s) ∙ ap shown_by e ∙ shown-back t
