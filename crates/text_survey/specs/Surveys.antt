-- The lines of a text that have a token, counted; or that some line is not all tokens.
use Rattle.std.specs.Prelude.{ℕ, zero, suc, ◌+◌, ◌<◌, ◌≤◌, ◌≡◌, Bool, true, false, List, [], ◌∷◌, eqb, length, drop, get_or, Some, None}
use Rattle.std.specs.Prelude as std
use Rattle.std.proofs.Math.Option.{Option, none, some}
use Rattle.language.specs.Kinds.{pick}
use Rattle.grammar.specs.Tokens.{Token, Tokens, tokens}
use Rattle.grammar.specs.Grammar.{lines_of}
use Rattle.lexing.specs.declared.Mark.{Mark}
use Rattle.lexing.specs.declared.Mark.TheVariants.{End, Bad, Symbol, One, Run, Function, Equals, Comma, Opens, Closes, Plus, Times}
use Rattle.lexing.specs.Bytes.{others}
use Rattle.lexing.specs.declared.Piece.{Piece}
use Rattle.lexing.specs.Pieces.{here, next_of}
use Rattle.text_survey.specs.declared.Seen.{Seen}

abbrev pub another : Option ℕ → Option ℕ
another none = none
another (some n) = some (suc n)

-- a line with these tokens before lines that count so many
abbrev pub counts : Tokens → Option ℕ → Option ℕ
counts none n = none
counts (some []) n = n
counts (some (t ∷ ts)) n = another n

unfoldable pub survey_of : List (List ℕ) → Option ℕ
survey_of [] = some 0
survey_of (l ∷ ls) = counts (tokens l) (survey_of ls)

-- 1: the end of a line, 2: a token, 0: none
abbrev pub step_of : Mark → ℕ
step_of End = 1
step_of Bad = 0
step_of Symbol = 2
step_of One = 2
step_of Run = 2
step_of Function = 2
step_of Equals = 2
step_of Comma = 2
step_of Opens = 2
step_of Closes = 2
step_of Plus = 2
step_of Times = 2

-- ---- a line token by token

abbrev pub token_on : (Bool → ℕ → Seen) → Bool → Piece → Seen
token_on rec b p = pick (eqb (step_of p.mark) 2) (rec true p.to) (record { ok = eqb (step_of p.mark) 1; some = b; to = p.to })

-- at most so many tokens
unfoldable pub line_from : List ℕ → ℕ → Bool → ℕ → Seen
line_from text zero b i = record { ok = false; some = b; to = i }
line_from text (suc most) b i = token_on (line_from text most) b (next_of text i)

abbrev pub line_on : List ℕ → ℕ → Seen
line_on text at = line_from text (suc (length text)) false at

-- and what that comes to: all tokens or not, some or none, and where it ends
pub record LineSeen (text : List ℕ) (at : ℕ) (r : Seen) : Type 0 where
  pub low : at ≤ r.to
  pub high : r.to ≤ length text
  pub same : others (drop at text) ≡ others (drop r.to text)
  pub ends : r.ok ≡ true → r.to < length text → get_or text r.to 0 ≡ 10
  pub empty : r.ok ≡ true → r.some ≡ false → here text at ≡ some []
  pub full : r.ok ≡ true → r.some ≡ true → (t : Token) × (ts : List Token) × (here text at ≡ some (t ∷ ts))
  pub bad : r.ok ≡ false → here text at ≡ none
  pub tells : r ≡ line_on text at

-- ---- a text

abbrev pub look_of : Option ℕ → std.Option ℕ
look_of none = None
look_of (some n) = Some n

pub record Surveyed (text : List ℕ) (r : std.Option ℕ) : Type 0 where
  pub few : (n : ℕ) → r ≡ Some n → n ≤ length text + 1
  pub good : (n : ℕ) → r ≡ Some n → survey_of (lines_of text) ≡ some n
  pub bad : r ≡ None → survey_of (lines_of text) ≡ none
  pub tells : r ≡ look_of (survey_of (lines_of text))
