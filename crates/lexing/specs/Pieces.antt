-- What the code finds at a place of a text: the first token of the line from there on, and where the next begins.
use Rattle.std.specs.Prelude.{ℕ, ◌+◌, ◌≤◌, ◌<◌, ◌≡◌, false, List, [], eqb, length, drop, get_or}
use Rattle.std.proofs.Math.Option.{none, some}
use Rattle.language.specs.Kinds.{pick}
use Rattle.language.specs.Trees.{fvar}
use Rattle.grammar.specs.Tokens.{blank, one, run, functor, equals, comma, opens, closes, plus, times, Tokens, puts, name_token, tokens}
use Rattle.lexing.specs.declared.Mark.{Mark}
use Rattle.lexing.specs.declared.Mark.TheVariants.{End, Bad, Symbol, One, Run, Function, Equals, Comma, Opens, Closes, Plus, Times}
use Rattle.lexing.specs.declared.Piece.{Piece}
use Rattle.lexing.specs.Bytes.{line, others, name_from, name_length, blanks, mark_of, sort_of, alone}

-- the tokens of the line from a place on
abbrev pub here : List ℕ → ℕ → Tokens
here text at = tokens (line (drop at text))

-- a token of this mark, and of this name where it has one, before these
abbrev pub front : Mark → ℕ → Tokens → Tokens
front End n ts = some []
front Bad n ts = none
front Symbol n ts = puts (name_token n) ts
front One n ts = puts (one (record { 0 = n })) ts
front Run n ts = puts (run (record { 0 = n })) ts
front Function n ts = puts (functor (fvar (record { 0 = n }))) ts
front Equals n ts = puts equals ts
front Comma n ts = puts comma ts
front Opens n ts = puts opens ts
front Closes n ts = puts closes ts
front Plus n ts = puts plus ts
front Times n ts = puts times ts

abbrev pub piece : Mark → ℕ → ℕ → Piece
piece m from to = record { mark = m; from = from; to = to }

-- a mark whose name would begin at this place
unfoldable pub marked_of : List ℕ → Mark → ℕ → Piece
marked_of text m at = piece (pick (eqb (name_length (drop at text)) 0) (alone m) m) at (at + name_length (drop at text))

-- the token that this mark begins
unfoldable pub piece_of : List ℕ → Mark → ℕ → Piece
piece_of text m i =
    pick (eqb (sort_of m) 0) (piece Bad i i)
    (pick (eqb (sort_of m) 1) (piece m i (i + name_length (drop i text)))
    (pick (eqb (sort_of m) 2) (marked_of text m (i + 1)) (piece m i (i + 1))))

-- the first token of the line from a place on, or the end of the line
unfoldable pub at_byte : List ℕ → ℕ → Piece
at_byte text i = pick (eqb (get_or text i 0) 10) (piece End i i) (piece_of text (mark_of (get_or text i 0)) i)

unfoldable pub next_of : List ℕ → ℕ → Piece
next_of text at = pick (eqb (at + blanks (drop at text)) (length text)) (piece End (length text) (length text)) (at_byte text (at + blanks (drop at text)))

-- ---- what that is

-- past the blanks that stand first
pub record Skipped (text : List ℕ) (at i : ℕ) : Type 0 where
  pub low : at ≤ i
  pub high : i ≤ length text
  pub reads : here text at ≡ here text i
  pub same : others (drop at text) ≡ others (drop i text)
  pub stops : i < length text → blank (get_or text i 0) ≡ false

pub record Next (text : List ℕ) (at : ℕ) (r : Piece) : Type 0 where
  pub low : at ≤ r.from
  pub through : r.from ≤ r.to
  pub high : r.to ≤ length text
  pub reads : here text at ≡ front r.mark (name_from (drop r.from text)) (here text r.to)
  -- no end of a line is passed
  pub same : others (drop at text) ≡ others (drop r.to text)
  -- a token has bytes
  pub moves : (sort_of r.mark ≡ 0 → ⊥) → at < r.to
  -- an end is that of the line or of the text
  pub ends : r.mark ≡ End → r.to < length text → get_or text r.to 0 ≡ 10
