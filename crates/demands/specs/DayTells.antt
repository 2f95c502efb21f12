-- What desk_day tells, as a C program sees it: its number, and the words of the bytes it lent.
use Rattle.std.specs.Prelude.{ℕ, ◌+◌, ◌*◌, ◌/◌, ◌<◌, ◌≤◌, ◌≡◌, true, false, List, [], ◌∷◌, ◌++◌, eqb, length, take, drop, get_or, replicate}
use Rattle.language.specs.Kinds.{pick}
use Rattle.language.specs.Limits.{desk}
use Rattle.word_bytes.specs.Bytes.{words_of, words_in}
use Rattle.sheets.specs.Layout.{count_of, sheet_laid, sheet_parts, sheet_words}
use Rattle.sheets.specs.Day.{answers_of}
use Rattle.demands.specs.HostCalls.{DeskSolve, DeskDay}

-- what a question gets by itself, as desk_solve leaves it: "a refusal number (0 for none) and, after 0, the answer up to the end of its last line"
abbrev pub by_itself : ℕ → List ℕ → List ℕ
by_itself number answer = number ∷ pick (eqb number 0) (take (get_or answer (get_or answer 0 0 + 2) 0) answer) []

-- "Each is what solving the question by itself gives": the i-th part of the words left is what any call of desk_solve gives for the i-th question,
-- in an answer slice that is long enough
abbrev pub EachByItself : DeskDay → Type 0
EachByItself c =
    (i : ℕ) → i < count_of (words_in c.sheet) → (s : DeskSolve) → words_in s.question ≡ get_or (sheet_parts (words_in c.sheet)) i [] → 2 * desk.room ≤ length s.answer
    → get_or (sheet_parts (words_of c.room_left)) i [] ≡ by_itself s.number (words_of s.answer_left)

-- the words of all answers, which 23 measures
abbrev pub day_words : List ℕ → List ℕ
day_words sheet = sheet_words (answers_of desk desk.room desk.room (sheet_parts (words_in sheet)))

-- the answers stand "in the same manner" at the room's start, as many as there are questions, and "the rest of the room is unchanged"
pub record AnswersIn (c : DeskDay) : Type 0 where
  pub words : ℕ
  pub fit : 2 * words ≤ length c.room
  pub laid : sheet_laid desk (take words (words_of c.room_left)) ≡ true
  pub count : count_of (words_of c.room_left) ≡ count_of (words_in c.sheet)
  pub rest : drop (2 * words) c.room_left ≡ drop (2 * words) c.room
  pub each : EachByItself c

-- "22 the sheet's header", "with nothing changed"; "23 the answers don't fit the room lent, and the room is then all zeros", of whose bytes an odd
-- last one is no word; or the answers
pub data DeskDayTells (c : DeskDay) : Type 0 where
  unlaid : c.number ≡ 22 → sheet_laid desk (words_in c.sheet) ≡ false → c.room_left ≡ c.room → DeskDayTells c
  too_long : c.number ≡ 23 → sheet_laid desk (words_in c.sheet) ≡ true → length c.room / 2 < length (day_words c.sheet)
      → c.room_left ≡ replicate (2 * (length c.room / 2)) 0 ++ drop (2 * (length c.room / 2)) c.room → DeskDayTells c
  answered : c.number ≡ 0 → sheet_laid desk (words_in c.sheet) ≡ true → AnswersIn c → DeskDayTells c
