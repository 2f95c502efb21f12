-- An answer that stands in a slice, and what is known of its lines.
use Rattle.std.specs.Prelude.{ℕ, ◌+◌, ◌%◌, ◌<◌, ◌≤◌, ◌≡◌, Bool, true, List, ◌++◌, length, get_or, drop, Result}
use Rattle.std.proofs.Math.Option.{some}
use Rattle.language.specs.declared.Refusal.{Refusal}
use Rattle.language.specs.Limits.{desk}
use Rattle.language.specs.Trees.{Conj}
use Rattle.language.specs.Writing.{conj_words}
use Rattle.language.specs.Fine.{fine_conj}
use Rattle.meaning.specs.Values.{filling_words}
use Rattle.values.specs.Lines.{Line}
use Rattle.language.specs.Question.{counts_of}
use Rattle.rules.specs.Solved.{solved}
use Rattle.rules.specs.Run.{Numbered, EachLine, lines_size, lines_at}
use Rattle.rules.specs.Answer.{line_words, answer_words}
use Rattle.rules.specs.Example.{default_symbol, example}
use Rattle.rules.specs.Calls.{fitted, shown, line_at}
use Rattle.answers.specs.Lined.{line_head}
use Rattle.values.specs.Values.{Settled}
use Rattle.line_example.specs.Shown.{result_of, room_of}

pub record Good (l : Conj) : Type 0 where
  pub fine : fine_conj desk l
  pub settled : solved l ≡ true → Settled l

-- the answer that has the lines ls stands at the front
pub record Answer (answer : List ℕ) (ls : List Numbered) : Type 0 where
  pub few : length ls ≤ desk.lines
  pub size : lines_at desk + lines_size ls ≤ desk.room
  pub rest : List ℕ
  pub words : answer ≡ answer_words desk ls ++ rest
  pub lines : EachLine Good ls

-- an answer stands at the front
pub record Answered (answer : List ℕ) : Type 0 where
  pub ls : List Numbered
  pub is : Answer answer ls

-- some symbol, and no more symbols and variables of a kind than there may be
pub record Ranged (question : List ℕ) : Type 0 where
  pub header : 4 ≤ length question
  pub named : 0 < get_or question 0 0 % 256
  pub symbols : get_or question 0 0 % 256 ≤ desk.each
  pub terms : get_or question 1 0 ≤ desk.each
  pub hedges : get_or question 2 0 ≤ desk.each
  pub functions : get_or question 3 0 ≤ desk.each

-- the example of the line that these words are, for old training sheets or not
pub record WordsShown (question : List ℕ) (old_sheets : Bool) (k old new : List ℕ) (r : Result ℕ Refusal) : Type 0 where
  pub result : (c : Conj) → Line k c → Settled c → r ≡ result_of (fitted desk (length old) (filling_words (counts_of question) (example (default_symbol old_sheets (counts_of question)) c)))
  pub room : (c : Conj) → Line k c → Settled c → new ≡ room_of (fitted desk (length old) (filling_words (counts_of question) (example (default_symbol old_sheets (counts_of question)) c))) old

-- a line stands in this part of an answer, its mark first and then its number
pub record LineIn (answer : List ℕ) (from to : ℕ) : Type 0 where
  pub c : Numbered
  pub beyond : List ℕ
  pub here : drop from answer ≡ line_words c ++ beyond
  pub end : to ≡ from + line_head + length (conj_words c.literals)
  pub good : Good c.literals

-- the example of the line whose mark, number and words are this part
pub record PartShown (question : List ℕ) (old_sheets : Bool) (answer : List ℕ) (from to : ℕ) (old new : List ℕ) (r : Result ℕ Refusal) : Type 0 where
  pub result : (c : Numbered) (beyond : List ℕ) → drop from answer ≡ line_words c ++ beyond → to ≡ from + line_head + length (conj_words c.literals) → Good c.literals
      → r ≡ result_of (shown desk old_sheets (counts_of question) (length old) (some c))
  pub room : (c : Numbered) (beyond : List ℕ) → drop from answer ≡ line_words c ++ beyond → to ≡ from + line_head + length (conj_words c.literals) → Good c.literals
      → new ≡ room_of (shown desk old_sheets (counts_of question) (length old) (some c)) old

-- the example of a line of an answer is shown, or why not
pub record AnswerShown (question : List ℕ) (line : ℕ) (old_sheets : Bool) (answer old new : List ℕ) (r : Result ℕ Refusal) : Type 0 where
  pub result : (ls : List Numbered) → Answer answer ls → r ≡ result_of (shown desk old_sheets (counts_of question) (length old) (line_at line ls))
  pub room : (ls : List Numbered) → Answer answer ls → new ≡ room_of (shown desk old_sheets (counts_of question) (length old) (line_at line ls)) old
