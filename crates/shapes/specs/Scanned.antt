-- What the loop over an expression leaves, token by token, and what that comes to.
use Rattle.std.specs.Prelude.{ℕ, zero, suc, ◌+◌, ◌%◌, ◌≤◌, min, ◌≡◌, true, false, List, length, drop}
use Rattle.language.specs.Limits.{Limits}
use Rattle.language.specs.Kinds.{pick}
use Rattle.texts.specs.Parsing.{stop}
use Rattle.lexing.specs.declared.Piece.{Piece}
use Rattle.lexing.specs.Bytes.{others}
use Rattle.lexing.specs.Pieces.{here, next_of}
use Rattle.flat.specs.Flat.{flat_expr}
use Rattle.walking.specs.declared.Way.{Way}
use Rattle.walking.specs.Walking.{reads, got_at, stage_of}
use Rattle.shapes.specs.Shapes.{state_behind, ends, refused, depth_by}
use Rattle.shapes.specs.Actions.{action_at, end_at}

-- so many words more, counted up to one more than a question may have
abbrev pub count_on : Limits → ℕ → ℕ → ℕ
count_on L n more = min (L.question + 1) (n + more)

-- by what a token is to the loop: the expression ends before it, it cannot stand there, or the loop goes on behind it
abbrev pub action_on : Limits → (ℕ → ℕ → ℕ → ℕ → Way) → ℕ → ℕ → ℕ → ℕ → Piece → ℕ → Way
action_on L rec stage d i n p a =
    pick (ends a d) (record { ok = true; at = i; n = count_on L n (end_at stage) })
    (pick (refused a) (record { ok = false; at = i; n = n }) (rec (stage_of (state_behind p.mark)) (depth_by a d) p.to (count_on L n (a % 10))))

abbrev pub piece_on : Limits → (ℕ → ℕ → ℕ → ℕ → Way) → ℕ → ℕ → ℕ → ℕ → Piece → Way
piece_on L rec stage d i n p = action_on L rec stage d i n p (action_at stage p.mark)

-- at most so many tokens
unfoldable pub shape_from : Limits → List ℕ → ℕ → ℕ → ℕ → ℕ → ℕ → Way
shape_from L text zero stage d i n = record { ok = false; at = i; n = n }
shape_from L text (suc most) stage d i n = piece_on L (shape_from L text most) stage d i n (next_of text i)

abbrev pub shape_on : Limits → List ℕ → ℕ → Way
shape_on L text at = shape_from L text (suc (length text)) 1 0 at 0

-- an expression that ends at a place, and how many words it has, as far as one counts
pub record Scanned (L : Limits) (text : List ℕ) (at : ℕ) (r : Way) : Type 0 where
  pub low : at ≤ r.at
  pub high : r.at ≤ length text
  pub same : others (drop at text) ≡ others (drop r.at text)
  pub good : r.ok ≡ true → (m : ℕ) × (reads flat_expr (here text at) ≡ got_at m (here text r.at)) × (r.n ≡ min (L.question + 1) m)
  pub bad : r.ok ≡ false → reads flat_expr (here text at) ≡ stop
  pub tells : r ≡ shape_on L text at
