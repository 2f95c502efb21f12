-- The answer slice after some lines: at any time it is the answer that has just these lines.
use Rattle.std.specs.Prelude.{ℕ, ◌+◌, ◌≤◌, ◌≡◌, Bool, List, ◌∷◌, ◌++◌, length, drop, set}
use Rattle.std.proofs.lemmas.List.Edits.{sets}
use Rattle.language.specs.Limits.{desk}
use Rattle.language.specs.Kinds.{pick}
use Rattle.rules.specs.Run.{Numbered, lines_size, lines_at}
use Rattle.rules.specs.Answer.{count_open, answer_words}
use Rattle.answers.specs.declared.Tally.{Tally}

-- how many words of a line stand before its literals: its mark and its number
abbrev pub line_head : ℕ
line_head = 2

-- `new` has the lines ls, t counts them, and the words past the room are those of `old`
pub record Lined (old : List ℕ) (ls : List Numbered) (t : Tally) (new : List ℕ) : Type 0 where
  pub lines : t.lines ≡ length ls
  pub «open» : t.«open» ≡ count_open ls
  pub end : t.end ≡ lines_at desk + lines_size ls
  pub few : length ls ≤ desk.lines
  pub room : lines_at desk + lines_size ls ≤ desk.room
  pub words : new ≡ answer_words desk ls ++ drop desk.room old

-- the count, one line more, whose words are k
abbrev pub counted : Tally → Bool → List ℕ → Tally
counted t solved k = record { lines = t.lines + 1; «open» = pick solved t.«open» (t.«open» + 1); end = t.end + line_head + length k }

-- an answer's words, one line more: its mark, its number and its words behind the others, where it ends, and the two counts
abbrev pub with_line : Tally → Tally → ℕ → Bool → List ℕ → List ℕ → List ℕ
with_line t u number solved k answer = set (set (set (sets answer t.end (pick solved 1 2 ∷ number ∷ k)) (u.lines + 2) u.end) 0 u.lines) 1 u.«open»
