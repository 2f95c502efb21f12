-- What each call on bytes tells, as a C program sees it: its number, and the words of the bytes it lent.
use Rattle.std.specs.Prelude.{ℕ, ◌+◌, ◌*◌, ◌/◌, ◌≡◌, ◌⊎◌, Bool, List, ◌++◌, length, drop, Result, Ok, Err}
use Rattle.std.proofs.Math.Option.{Option}
use Rattle.language.specs.declared.Refusal.{Refusal}
use Rattle.language.specs.Limits.{desk}
use Rattle.language.specs.Mistakes.{RightPlace}
use Rattle.language.specs.Numbers.{number_of, place_of}
use Rattle.language.specs.Trees.{Counts, signature}
use Rattle.meaning.specs.Meaning.{Filling}
use Rattle.meaning.specs.Values.{gives, read_filling}
use Rattle.rules.specs.Answer.{answer_words, zeros}
use Rattle.word_bytes.specs.Bytes.{words_of, bytes_of, words_in}
use Rattle.host.specs.Numbers.{asks_old}
use Rattle.demands.specs.Columns.{Column, unchanged, zeroed, as-solved, column}
use Rattle.demands.specs.HostCalls.{DeskSolve, DeskTry, DeskExample, DeskPlace}
use Rattle.demands.specs.Answers.{Line, numbered_of, MeetsLines, nth_line}
use Rattle.demands.specs.Promises.{Promised, Told}
use Rattle.demands.specs.Table.{QuestionFault, SolveFault, TryFault, First}
use Rattle.demands.specs.Tells.{SolvingNumber}

-- the same column, in bytes
abbrev pub left_in_bytes : Column → List ℕ → List ℕ → List ℕ
left_in_bytes unchanged solved old = old
left_in_bytes zeroed solved old = bytes_of (zeros desk) ++ drop (2 * desk.room) old
left_in_bytes as-solved solved old = solved

-- "It gets back the refusal number, or 0." The answer slice has half as many words as bytes, so that "an answer under 16,384 bytes is 1"; an odd
-- count of question bytes holds no words, so that it is 2.
pub data DeskSolveTells (c : DeskSolve) : Type 0 where
  refuses : (e : Refusal) → c.number ≡ number_of e → SolvingNumber (number_of e) → First (SolveFault desk.room (length c.answer / 2) (words_in c.question)) e
      → c.answer_left ≡ left_in_bytes (column e) c.answer c.answer → DeskSolveTells c
  answers : c.number ≡ 0 → (p : Promised (words_in c.question) (words_of c.answer_left))
      → c.answer_left ≡ bytes_of (answer_words desk (numbered_of p.lines)) ++ drop (2 * desk.room) c.answer → DeskSolveTells c

-- 100 is no, 101 is yes, and below stand the refusals
pub data DeskTryTells (t : DeskTry) : Type 0 where
  refuses : (e : Refusal) → t.number ≡ number_of e → First (TryFault desk.room (words_in t.question) (words_in t.filling)) e → DeskTryTells t
  decides : (t.number ≡ 101) ⊎ (t.number ≡ 100) → DeskTryTells t

-- 101 and 100 are what the lines say of the filling that these bytes are
pub record DeskTryAgrees {question answer : List ℕ} (p : Promised question answer) (filling : List ℕ) (number : ℕ) : Type 0 where
  pub yes : number ≡ 101 → (ρ : Filling) × (read_filling desk p.asked.counts (words_in filling) ≡ gives ρ) × MeetsLines (signature p.asked.counts) ρ p.lines
  pub no : number ≡ 100 → (ρ : Filling) × (read_filling desk p.asked.counts (words_in filling) ≡ gives ρ) × (MeetsLines (signature p.asked.counts) ρ p.lines → ⊥)

-- "100 and the filling's length in words, and below stand the refusals"
abbrev pub host_number : Result ℕ Refusal → ℕ
host_number (Ok m) = 100 + m
host_number (Err r) = number_of r

-- what desk_example tells, by the line that is read off an answer's bytes
pub record BytesTold (old_sheets : Bool) (n : Counts) (l : Option Line) (old : List ℕ) (number : ℕ) (new : List ℕ) : Type 0 where
  pub result : Result ℕ Refusal
  pub is : number ≡ host_number result
  pub tells : Told old_sheets n (words_of old) l result (words_of new)

-- The refusals of solving leave the room alone; and else there is an answer to the question, whose line of that number decides.
pub data DeskExampleTells (c : DeskExample) : Type 0 where
  refuses : (e : Refusal) → c.number ≡ number_of e → SolvingNumber (number_of e) → First (SolveFault desk.room desk.room (words_in c.question)) e
      → c.room_left ≡ c.room → DeskExampleTells c
  told : (answer : List ℕ) (p : Promised (words_in c.question) answer) → BytesTold (asks_old c.old) p.asked.counts (nth_line c.line p.lines) c.room c.number c.room_left
      → DeskExampleTells c

-- Where the question has a fault, the place of the first; and where it has none, 0.
pub data DeskPlaceTells (c : DeskPlace) : Type 0 where
  faulty : (e : Refusal) → First (QuestionFault (words_in c.question)) e → RightPlace desk (words_in c.question) e → c.number ≡ place_of e → DeskPlaceTells c
  faultless : ((e : Refusal) → QuestionFault (words_in c.question) e → ⊥) → c.number ≡ 0 → DeskPlaceTells c
