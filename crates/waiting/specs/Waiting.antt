-- Blocks of words that wait in a lent slice: the first at the low end, each in its frame, the last ending at word 16,383.
use Rattle.std.specs.Prelude.{ℕ, suc, ◌+◌, ◌≡◌, List, [], ◌∷◌, ◌++◌, length, drop}
use Rattle.std.proofs.lemmas.List.Edits.{sets}
use Rattle.language.specs.Limits.{desk}
use Rattle.frames.specs.Frames.{Block, framed}

-- the alternatives in order, the first of which has the number n
abbrev pub in_order : ℕ → List (List ℕ) → List Block
in_order n [] = []
in_order n (w ∷ ws) = record { number = n; words = w } ∷ in_order (suc n) ws

-- the blocks are stored in `old` from `at` on, and nothing else is
pub record Laid (old : List ℕ) (at : ℕ) (blocks : List Block) (new : List ℕ) : Type 0 where
  pub place : at + length (framed blocks) ≡ desk.room
  pub words : new ≡ sets old at (framed blocks)

-- the blocks wait from `at` on in `new`, whose words past the room are those of `old`
pub record Waiting (old : List ℕ) (at : ℕ) (blocks : List Block) (new : List ℕ) : Type 0 where
  pub place : at + length (framed blocks) ≡ desk.room
  pub words : drop at new ≡ framed blocks ++ drop desk.room old
  pub size : length new ≡ length old
