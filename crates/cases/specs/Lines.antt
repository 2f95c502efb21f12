-- Where a line ends, and the words that it holds.
use Rattle.std.specs.Prelude.{ℕ, ◌-◌, ◌≤◌, min, ◌≡◌, List, [], ◌∷◌, eqb, length, drop}
use Rattle.std.proofs.lemmas.List.Edits.{sets}
use Rattle.language.specs.Kinds.{pick}
use Rattle.prompt.specs.Texts.{read_text}

-- the first line end, and what stands behind it
unfoldable pub from_line_end : List ℕ → List ℕ
from_line_end [] = []
from_line_end (b ∷ bs) = pick (eqb b 10) (b ∷ bs) (from_line_end bs)

-- where it stands, from `at` on, or the end of the text; and that this is a place of the text, not before `at` where that is one
pub record Ends (text : List ℕ) (at r : ℕ) : Type 0 where
  pub place : r ≡ length text - length (from_line_end (drop at text))
  pub inside : r ≤ length text
  pub ahead : at ≤ length text → at ≤ r

-- the words of a line in a room, and how many they are; and that they are within it
pub record Parsed (line before after : List ℕ) (r : ℕ) : Type 0 where
  pub count : r ≡ min (length before) (length (read_text line).words)
  pub words : after ≡ sets before 0 (read_text line).words
  pub same-room : length after ≡ length before
  pub inside : r ≤ length after
