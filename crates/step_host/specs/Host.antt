-- What the call that makes one named step returns, and what it leaves in the bytes lent to it, for every input.
use Rattle.std.specs.Prelude.{ℕ, ◌+◌, ◌*◌, ◌/◌, List, ◌++◌, drop}
use Rattle.language.specs.Limits.{Limits, desk}
use Rattle.language.specs.Numbers.{number_of}
use Rattle.rules.specs.Answer.{zeros}
use Rattle.word_bytes.specs.Bytes.{words_in, bytes_of}
use Rattle.handing.specs.Handed.{used}
use Rattle.replay.specs.Replay.{Triple}
use Rattle.named_steps.specs.Naming.{Naming, made, unread, given-up, naming}
use Rattle.named_steps.specs.Leaves.{result_words, begins, room_of}

-- a number that is no word stands for the last one, which names no rule, no literal and no side
abbrev pub word_from : ℕ → ℕ
word_from n = used 65535 n

-- A room of so many bytes, the number of the results, the three words of a step, and a question's bytes.
unfoldable pub naming_bytes : Limits → ℕ → ℕ → Triple → List ℕ → Naming
naming_bytes L room number t q = naming L (room / 2) number t (words_in q)

-- 100 and the word of the room where the results begin, and below stand the refusals
unfoldable pub step_number : ℕ → Naming → ℕ
step_number number (made ks) = 100 + begins (result_words number ks)
step_number number (unread r) = number_of r
step_number number (given-up r) = number_of r

-- The room's bytes at exit: the results behind zeros, or unchanged, or zeros; later bytes stay.
unfoldable pub step_leaves : ℕ → Naming → List ℕ → List ℕ
step_leaves number (made ks) bytes = bytes_of (room_of (result_words number ks)) ++ drop (2 * desk.room) bytes
step_leaves number (unread r) bytes = bytes
step_leaves number (given-up r) bytes = bytes_of (zeros desk) ++ drop (2 * desk.room) bytes
