-- What reading a text leaves: its words at the start of a room, as many as there is room for.
use Rattle.std.specs.Prelude.{ℕ, ◌+◌, min, ◌≡◌, List, length}
use Rattle.std.proofs.lemmas.List.Edits.{sets}
use Rattle.prompt.specs.declared.Text.{Text}
use Rattle.prompt.specs.Texts.{read_text}

-- these words put at n, and the place after them
pub record Put (room : List ℕ) (n : ℕ) (ws : List ℕ) (r : ℕ) (room' : List ℕ) : Type 0 where
  pub place : r ≡ min (length room) (n + length ws)
  pub words : room' ≡ sets room n ws

pub record Parsed (text room : List ℕ) (r : Text) (room' : List ℕ) : Type 0 where
  pub count : r.words ≡ min (length room) (length (read_text text).words)
  pub line : r.line ≡ (read_text text).line
  pub column : r.column ≡ (read_text text).column
  pub words : room' ≡ sets room 0 (read_text text).words
