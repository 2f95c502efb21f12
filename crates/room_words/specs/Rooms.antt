-- Words in a room from a place on.
use Rattle.std.specs.Prelude.{ℕ, ◌+◌, ◌≤◌, min, ◌≡◌, Bool, List, [], ◌∷◌, length}
use Rattle.std.proofs.lemmas.List.Edits.{sets}
use Rattle.language.specs.Kinds.{pick}

abbrev pub word_if : Bool → ℕ → List ℕ
word_if b w = pick b (w ∷ []) []

-- as many of them as there is room for
pub record Put (room : List ℕ) (n : ℕ) (ws : List ℕ) (r : ℕ) (room' : List ℕ) : Type 0 where
  pub place : r ≡ min (length room) (n + length ws)
  pub words : room' ≡ sets room n ws

-- all of them where there is room for all of them, and nothing is said of the room where there is not
pub record Wrote (room : List ℕ) (n : ℕ) (ws : List ℕ) (r : ℕ) (room' : List ℕ) : Type 0 where
  pub place : r ≡ min (length room) (n + length ws)
  pub len : length room' ≡ length room
  pub words : n + length ws ≤ length room → room' ≡ sets room n ws
