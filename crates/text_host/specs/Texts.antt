-- What each call of the host on texts returns, and what it leaves in the room, for every input. Of a text that is written the latter is said where it is
-- written (`left_by` in `write_text`).
use Rattle.std.specs.Prelude.{ℕ, ◌+◌, ◌/◌, List, Result, Ok, Err, length}
use Rattle.std.proofs.lemmas.List.Edits.{sets}
use Rattle.language.specs.declared.Refusal.{Refusal}
use Rattle.language.specs.Limits.{Limits}
use Rattle.language.specs.Numbers.{number_of}
use Rattle.texts.specs.Outcomes.{Outcome, gives, denies, reads_text, writes_text}
use Rattle.word_bytes.specs.Bytes.{words_in, bytes_of}

-- a room of so many bytes, and a question's bytes; an odd count of these is no question
unfoldable pub writing_bytes : Limits → ℕ → List ℕ → Outcome
writing_bytes L room q = writes_text L room (words_in q)

-- a room of so many bytes, of which an odd last one is no word, and a text
unfoldable pub reading_bytes : Limits → ℕ → List ℕ → Outcome
reading_bytes L room text = reads_text L (room / 2) text

-- 100 and how many were given, and below stand the refusals
abbrev pub text_number : Outcome → ℕ
text_number (gives bs) = 100 + length bs
text_number (denies r) = number_of r

-- the same of what the calls on words give back
abbrev pub given_number : Result ℕ Refusal → ℕ
given_number (Ok n) = 100 + n
given_number (Err r) = number_of r

-- how many words were read: of a refusal none
abbrev pub given_words : Result ℕ Refusal → ℕ
given_words (Ok n) = n
given_words (Err r) = 0

-- the words read, as bytes at the start of the room; a refusal leaves it untouched
abbrev pub words_left : Outcome → List ℕ → List ℕ
words_left (gives ws) room = sets room 0 (bytes_of ws)
words_left (denies r) room = room
