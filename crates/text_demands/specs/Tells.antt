-- What the calls on texts tell, as a C program sees it.
use Rattle.std.specs.Prelude.{ℕ, ◌+◌, ◌*◌, ◌/◌, ◌≤◌, ◌<◌, ◌≡◌, true, false, List, ◌++◌, length, drop}
use Rattle.language.specs.declared.Refusal.{Refusal}
use Rattle.language.specs.Limits.{desk}
use Rattle.language.specs.Numbers.{number_of}
use Rattle.language.specs.Trees.{Conj, Question}
use Rattle.language.specs.Question.{counts_fit, read_question}
use Rattle.language.specs.Question as question
use Rattle.grammar.specs.Grammar.{TextOf}
use Rattle.texts.specs.Numbering.{numbered, counts_in}
use Rattle.texts.specs.Writer.{all_text}
use Rattle.texts.specs.Outcomes.{question_words, as_read}
use Rattle.word_bytes.specs.Bytes.{bytes_of, words_in}
use Rattle.text_demands.specs.Calls.{DeskWriteText, DeskReadText}

-- the question of lines that a text spells, with names as the text has them, and its words
abbrev pub asking : List Conj → Question
asking ks = record { counts = counts_in ks; alternatives = numbered ks }

abbrev pub asking_words : List Conj → List ℕ
asking_words ks = question_words (counts_in ks) (numbered ks)

-- "17 not of the grammar; 18 more names or lines than the header can count; 19 too many words; in this order". `TextOf` is the grammar, apart from any reader.
pub data DeskReadTextTells (c : DeskReadText) : Type 0 where
  no_text : ((ks : List Conj) → TextOf ks c.text → ⊥) → c.number ≡ 17 → c.room_left ≡ c.room → DeskReadTextTells c
  many : (ks : List Conj) → TextOf ks c.text → counts_fit desk (counts_in ks) (length ks) ≡ false → c.number ≡ 18 → c.room_left ≡ c.room → DeskReadTextTells c
  long : (ks : List Conj) → TextOf ks c.text → counts_fit desk (counts_in ks) (length ks) ≡ true
      → (length (asking_words ks) ≤ desk.question → length (asking_words ks) ≤ length c.room / 2 → ⊥) → c.number ≡ 19 → c.room_left ≡ c.room → DeskReadTextTells c
  reads : (ks : List Conj) → TextOf ks c.text → read_question desk (asking_words ks) ≡ question.asks (asking ks) → c.number ≡ 100 + length (asking_words ks)
      → c.room_left ≡ bytes_of (asking_words ks) ++ drop (2 * length (asking_words ks)) c.room → DeskReadTextTells c

-- 2 to 6, "then 20 for a question numbered or counted otherwise, then 19"
pub data DeskWriteTextTells (c : DeskWriteText) : Type 0 where
  refuses : (r : Refusal) → read_question desk (words_in c.question) ≡ question.refuses r → c.number ≡ number_of r → c.room_left ≡ c.room → DeskWriteTextTells c
  otherwise : (q : Question) → read_question desk (words_in c.question) ≡ question.asks q → as_read q ≡ false → c.number ≡ 20 → c.room_left ≡ c.room → DeskWriteTextTells c
  long : (q : Question) → read_question desk (words_in c.question) ≡ question.asks q → as_read q ≡ true → length c.room < length (all_text q.alternatives) → c.number ≡ 19
      → c.room_left ≡ c.room → DeskWriteTextTells c
  writes : (q : Question) → read_question desk (words_in c.question) ≡ question.asks q → as_read q ≡ true → c.number ≡ 100 + length (all_text q.alternatives)
      → c.room_left ≡ all_text q.alternatives ++ drop (length (all_text q.alternatives)) c.room → DeskWriteTextTells c
