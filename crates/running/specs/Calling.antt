-- What a run comes to on each course, for a caller.
use Rattle.std.specs.Prelude.{ℕ, List, []}
use Rattle.language.specs.Limits.{desk}
use Rattle.rules.specs.Answer.{Solving, solving}
use Rattle.replay.specs.Calls.{solving_trail, replaying}
use Rattle.word_bytes.specs.Bytes.{words_of, half_word}
use Rattle.courses.specs.declared.Course.{Course}
use Rattle.courses.specs.declared.Course.TheVariants.{First, Noted, Told}

-- with this trail to follow, and work slice, answer slice and room of so many words
abbrev pub calling : Course → List ℕ → ℕ → ℕ → ℕ → List ℕ → Solving
calling First told work answer room ws = solving desk work answer ws
calling Noted told work answer room ws = solving_trail desk work answer room ws
calling Told told work answer room ws = replaying desk work answer (half_word told) (words_of told) ws

-- what is noted of the question's trail
abbrev pub notes : Course → List ℕ → List ℕ
notes First t = []
notes Noted t = t
notes Told t = []
