-- What the calls with a trail tell, as a C program sees it.
use Rattle.std.specs.Prelude.{ℕ, ◌*◌, ◌≤◌, ◌≡◌, ◌⊎◌, List, ◌++◌, drop}
use Rattle.std.proofs.Math.Option.{some}
use Rattle.language.specs.declared.Refusal.{Refusal}
use Rattle.language.specs.Limits.{desk}
use Rattle.language.specs.Numbers.{number_of}
use Rattle.language.specs.Trees.{signature, Question}
use Rattle.language.specs.Question.{asks, read_question}
use Rattle.rules.specs.Each.{Each}
use Rattle.rules.specs.Reply.{nothing}
use Rattle.rules.specs.Step.{step}
use Rattle.rules.specs.Answer.{mark_of, answer_words}
use Rattle.word_bytes.specs.Bytes.{bytes_of, words_of, words_in}
use Rattle.demands.specs.Answers.{Line, numbered_of, read_answer}
use Rattle.demands.specs.Columns.{column}
use Rattle.demands.specs.HostTells.{left_in_bytes}
use Rattle.demands.specs.Promises.{Exact}
use Rattle.trail_demands.specs.Calls.{DeskReplay}

-- "What it accepts fulfils demand 3, whoever wrote the trail", and it accepts "a trail only when no rule applies any more": of a question's words, and the
-- words that the replay left.
pub record Accepted (question answer : List ℕ) : Type 0 where
  pub asked : Question
  pub question-read : read_question desk question ≡ asks asked
  pub lines : List Line
  pub answer-read : read_answer desk answer ≡ some lines
  pub marks : Each (λ l. l.mark ≡ mark_of l.literals) lines
  pub rests : Each (λ l. step (signature asked.counts) l.literals ≡ nothing) lines
  pub exact : Exact asked lines

-- "the replay gives 1 to 6 as before"; "7, 8, 9 and 21"; 26 to 28
abbrev pub ReplayingNumber : ℕ → Type 0
ReplayingNumber n = (n ≤ 9) ⊎ (n ≡ 21) ⊎ ((26 ≤ n) × (n ≤ 28))

-- "from 7 on its slices are zeros"
pub data DeskReplayTells (c : DeskReplay) : Type 0 where
  refuses : (e : Refusal) → c.number ≡ number_of e → ReplayingNumber (number_of e) → c.answer_left ≡ left_in_bytes (column e) c.answer c.answer → DeskReplayTells c
  accepts : c.number ≡ 0 → (a : Accepted (words_in c.question) (words_of c.answer_left))
      → c.answer_left ≡ bytes_of (answer_words desk (numbered_of a.lines)) ++ drop (2 * desk.room) c.answer → DeskReplayTells c
