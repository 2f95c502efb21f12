-- What is promised of an answer and of an example, as a caller sees them: over the words alone.
use Rattle.std.specs.Prelude.{ℕ, ◌≤◌, ◌<◌, ◌≡◌, ◌⊎◌, ◌↔◌, Bool, List, length, take, drop, Result, Ok, Err}
use Rattle.std.proofs.Math.Option.{Option, none, some}
use Rattle.language.specs.declared.Refusal.{Refusal}
use Rattle.language.specs.declared.Refusal.TheVariants.{NoSuchLine, OpenLine, LongExample}
use Rattle.language.specs.Limits.{desk}
use Rattle.language.specs.Trees.{Counts, signature, Question}
use Rattle.language.specs.Question.{asks, read_question}
use Rattle.meaning.specs.Meaning.{Filling, MeetsQuestion}
use Rattle.meaning.specs.Values.{gives, read_filling, filling_words}
use Rattle.rules.specs.Run.{finished, run}
use Rattle.rules.specs.Answer.{mark_of}
use Rattle.rules.specs.Example.{default_symbol, example}
use Rattle.rules.specs.Each.{Each}
use Rattle.exact.specs.Numbers.{MeetsAt}
use Rattle.lines.specs.Matching.{Matching}
use Rattle.lines.specs.Fillings.{Agree}
use Rattle.outcomes.specs.declared.Solved.{Solved}
use Rattle.solver.specs.Leaves.{verdict_for}
use Rattle.demands.specs.Answers.{Line, numbered_of, read_answer, MeetsLine, MeetsLines, MeetsLinesOf, opens}

-- Demand 2: the lines are those of the published rules, in their order, with their marks and numbers, after as many steps.
pub record ByTheRules (asked : Question) (lines : List Line) : Type 0 where
  pub steps : ℕ
  pub run : run desk (signature asked.counts) asked.alternatives ≡ finished (numbered_of lines) steps
  pub marks : Each (λ l. l.mark ≡ mark_of l.literals) lines

-- Demand 3: any filling meets the question exactly when it meets at least one line, and alternative n exactly when it meets a line numbered n;
-- every settled line has a filling; and if within each alternative every equation has a side without blanks and each blank of a shape test also
-- stands in an equation, no line is open.
pub record Exact (asked : Question) (lines : List Line) : Type 0 where
  pub same : (ρ : Filling) → MeetsQuestion ρ asked ↔ MeetsLines (signature asked.counts) ρ lines
  pub numbered : (ρ : Filling) (n : ℕ) → MeetsAt (signature asked.counts) ρ n asked.alternatives ↔ MeetsLinesOf (signature asked.counts) ρ n lines
  pub met : Each (λ l. l.mark ≡ 1 → (ρ : Filling) × MeetsLine (signature asked.counts) ρ l) lines
  pub matched : Each Matching asked.alternatives → Each (λ l. l.mark ≡ 1) lines

-- of a question's words, and the words that solving left
pub record Promised (question answer : List ℕ) : Type 0 where
  pub asked : Question
  pub question-read : read_question desk question ≡ asks asked
  pub lines : List Line
  pub answer-read : read_answer desk answer ≡ some lines
  pub by-rules : ByTheRules asked lines
  pub exact : Exact asked lines

-- what comes back from solving is what is read off the answer
pub record Answered (question answer : List ℕ) (r : Solved) : Type 0 where
  pub promised : Promised question answer
  pub outcome : r.outcome ≡ verdict_for (length promised.lines) (opens promised.lines)
  pub lines : r.lines ≡ length promised.lines
  pub opened : r.«open» ≡ opens promised.lines
  pub steps : r.steps ≡ promised.by-rules.steps

-- ---- the example of a line

-- the example of a line, for old training sheets or not: free blanks take symbol 0, or the last declared one
abbrev pub example_of : Bool → Counts → Line → Filling
example_of old_sheets n l = example (default_symbol old_sheets n) l.literals

-- its words
abbrev pub example_words : Bool → Counts → Line → List ℕ
example_words old_sheets n l = filling_words n (example_of old_sheets n l)

-- the room's first m words are read as a filling that meets the line, and the rest is as it was
pub record RoomShows (old_sheets : Bool) (n : Counts) (l : Line) (m : ℕ) (old new : List ℕ) : Type 0 where
  pub filling : Filling
  pub words : take m new ≡ example_words old_sheets n l
  pub read : read_filling desk n (take m new) ≡ gives filling
  pub agrees : Agree n filling (example_of old_sheets n l)
  pub meets : MeetsLine (signature n) filling l
  pub rest : drop m new ≡ drop m old

-- What asking for the example of a line comes to, by the line that is read off the answer; the room before and after. There is no such line: 14.
-- It is open: 15. Its example is longer than the room or than a filling may be: 16. And else the room shows it.
pub data Told (old_sheets : Bool) (n : Counts) (old : List ℕ) (l : Option Line) (r : Result ℕ Refusal) (new : List ℕ) : Type 0 where
  missing : l ≡ none → r ≡ Err NoSuchLine → new ≡ old → Told old_sheets n old l r new
  is_open : (k : Line) → l ≡ some k → k.mark ≡ 2 → r ≡ Err OpenLine → new ≡ old → Told old_sheets n old l r new
  too_long : (k : Line) → l ≡ some k → k.mark ≡ 1 → (desk.filling < length (example_words old_sheets n k)) ⊎ (length old < length (example_words old_sheets n k))
      → r ≡ Err LongExample → new ≡ old → Told old_sheets n old l r new
  shown : (k : Line) (m : ℕ) → l ≡ some k → k.mark ≡ 1 → m ≡ length (example_words old_sheets n k) → m ≤ desk.filling → m ≤ length old
      → r ≡ Ok m → RoomShows old_sheets n k m old new → Told old_sheets n old l r new
