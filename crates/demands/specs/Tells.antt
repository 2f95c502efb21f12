-- What each call tells, as a caller sees it.
use Rattle.std.specs.Prelude.{ℕ, ◌≤◌, ◌≡◌, ◌⊎◌, List, Result, Ok, Err, Bool, true, false}
use Rattle.language.specs.declared.Refusal.{Refusal}
use Rattle.language.specs.Numbers.{number_of}
use Rattle.language.specs.Limits.{desk}
use Rattle.language.specs.Trees.{signature}
use Rattle.meaning.specs.Meaning.{Filling}
use Rattle.meaning.specs.Values.{gives, read_filling}
use Rattle.rules.specs.Answer.{answer_words, zeros, overwritten}
use Rattle.solver.specs.Leaves.{refused_by}
use Rattle.demands.specs.Columns.{column, left_in}
use Rattle.demands.specs.Answers.{numbered_of, MeetsLines, nth_line}
use Rattle.demands.specs.Promises.{Promised, Answered, Told}
use Rattle.demands.specs.Solves.{Solve}
use Rattle.demands.specs.Tries.{Try}
use Rattle.demands.specs.Examples.{Example}

-- 1 to 10, and 21
abbrev pub SolvingNumber : ℕ → Type 0
SolvingNumber n = (n ≤ 10) ⊎ (n ≡ 21)

-- "a refusal reports 0 for all three"; its number, and what it leaves in the two slices
pub record SolveRefuses (c : Solve) (e : Refusal) : Type 0 where
  pub returned : c.returned ≡ refused_by e
  pub number : (1 ≤ number_of e) × SolvingNumber (number_of e)
  pub work : c.work_left ≡ left_in (column e) (overwritten desk (zeros desk) c.work) c.work
  pub answer : c.answer_left ≡ left_in (column e) (overwritten desk (zeros desk) c.answer) c.answer

-- an answer: what is promised of it, zeros in the work slice, and in the answer slice the answer that has these lines
pub record SolveAnswers (c : Solve) : Type 0 where
  pub answered : Answered c.question c.answer_left c.returned
  pub work : c.work_left ≡ overwritten desk (zeros desk) c.work
  pub answer : c.answer_left ≡ overwritten desk (answer_words desk (numbered_of answered.promised.lines)) c.answer

-- "Solving gives 1 to 10", and 21
pub data SolveTells (c : Solve) : Type 0 where
  refuses : (e : Refusal) → SolveRefuses c e → SolveTells c
  answers : SolveAnswers c → SolveTells c

-- "trying a filling 1 to 6, 11, 12, 13 (yes or no otherwise, only a work slice lent)"
pub data TryTells (t : Try) : Type 0 where
  refuses : (e : Refusal) → t.returned ≡ Err e → (number_of e ≤ 6) ⊎ ((11 ≤ number_of e) × (number_of e ≤ 13))
      → t.work_left ≡ left_in (column e) t.work t.work → TryTells t
  decides : (t.returned ≡ Ok true) ⊎ (t.returned ≡ Ok false) → t.work_left ≡ overwritten desk (zeros desk) t.work → TryTells t

-- "the example solves anew: 1 to 10 .." and 21, ", and a refusal leaves its room untouched"; and else the line decides that is read off the answer, and
-- "the two slices are as solved"
pub data ExampleTells (c : Example) : Type 0 where
  refuses : (e : Refusal) → c.returned ≡ Err e → (1 ≤ number_of e) × SolvingNumber (number_of e)
      → c.work_left ≡ left_in (column e) (overwritten desk (zeros desk) c.work) c.work → c.answer_left ≡ left_in (column e) (overwritten desk (zeros desk) c.answer) c.answer
      → c.room_left ≡ c.room → ExampleTells c
  told : (p : Promised c.question c.answer_left) → Told c.old_sheets p.asked.counts c.room (nth_line c.line p.lines) c.returned c.room_left
      → c.work_left ≡ overwritten desk (zeros desk) c.work → c.answer_left ≡ overwritten desk (answer_words desk (numbered_of p.lines)) c.answer → ExampleTells c

-- yes and no are what the lines say of the filling that these words are
pub record TryAgrees {question answer : List ℕ} (p : Promised question answer) (filling : List ℕ) (r : Result Bool Refusal) : Type 0 where
  pub yes : r ≡ Ok true → (ρ : Filling) × (read_filling desk p.asked.counts filling ≡ gives ρ) × MeetsLines (signature p.asked.counts) ρ p.lines
  pub no : r ≡ Ok false → (ρ : Filling) × (read_filling desk p.asked.counts filling ≡ gives ρ) × (MeetsLines (signature p.asked.counts) ρ p.lines → ⊥)
