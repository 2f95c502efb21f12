-- What answering a day's sheet comes to: each question solved by itself, the answers laid out as the sheet is, and which of 1, 22 and 23 is given.
use Rattle.std.specs.Prelude.{ℕ, true, false, List, [], ◌∷◌, map, leb, ltb, length}
use Rattle.language.specs.declared.Refusal.{Refusal}
use Rattle.language.specs.declared.Refusal.TheVariants.{ShortSlice, SheetLayout, LongAnswers}
use Rattle.language.specs.Limits.{Limits}
use Rattle.language.specs.Numbers.{number_of}
use Rattle.rules.specs.Answer.{answer_body, Solving, answered, solving}
use Rattle.rules.specs.Answer as answer
use Rattle.sheets.specs.Layout.{sheet_words, sheet_laid, sheet_parts}

-- "each a refusal number (0 for none) and, after 0, the answer up to the end of its last line"
abbrev pub answer_part : Limits → Solving → List ℕ
answer_part L (answered ls n) = 0 ∷ answer_body L ls
answer_part L (answer.unread r) = number_of r ∷ []
answer_part L (answer.given-up r) = number_of r ∷ []

-- "Each is what solving the question by itself gives, and a refused one doesn't stop the others": for a work and an answer slice of so many words
unfoldable pub answers_of : Limits → ℕ → ℕ → List (List ℕ) → List (List ℕ)
answers_of L work answer qs = map (λ (q : List ℕ). answer_part L (solving L work answer q)) qs

-- the words of the answers; a refusal before any solving, which changes nothing; 23, which leaves zeros
pub data Day : Type 0 where
  answers : List ℕ → Day
  unread : Refusal → Day
  given-up : Refusal → Day

-- "23 the answers don't fit the room lent"
abbrev pub fitted : ℕ → List ℕ → Day
fitted room ws = elim (leb (length ws) room) [ true ↦ answers ws | false ↦ given-up LongAnswers ]

-- for a work and an answer slice and a room of so many words: "1, then 22 the sheet's header; while writing: 23"
unfoldable pub day : Limits → ℕ → ℕ → ℕ → List ℕ → Day
day L work answer room ws =
    elim (ltb work L.room) [
      | true ↦ unread ShortSlice
      | false ↦
          elim (ltb answer L.room) [
            | true ↦ unread ShortSlice
            | false ↦
                elim (sheet_laid L ws) [ false ↦ unread SheetLayout | true ↦ fitted room (sheet_words (answers_of L work answer (sheet_parts ws))) ]
          ]
    ]
