-- A text: its lines, and the conjunctions that they spell, with names' numbers; or that it is not of the grammar.
use Rattle.std.specs.Prelude.{ℕ, List, [], ◌∷◌}
use Rattle.std.proofs.Math.Option.{Option, none, some}
use Rattle.language.specs.Trees.{Conj}
use Rattle.grammar.specs.Tokens.{Token, Tokens, tokens}
use Rattle.grammar.specs.Grammar.{lines_of}
use Rattle.texts.specs.Parsing.{line_of}

abbrev pub with_line : Option Conj → Option (List Conj) → Option (List Conj)
with_line none ks = none
with_line (some k) none = none
with_line (some k) (some ks) = some (k ∷ ks)

abbrev pub line_on : List Token → Option (List Conj) → Option (List Conj)
line_on [] ks = ks
line_on (t ∷ ts) ks = with_line (line_of (t ∷ ts)) ks

abbrev pub tokens_on : Tokens → Option (List Conj) → Option (List Conj)
tokens_on none ks = none
tokens_on (some ts) ks = line_on ts ks

unfoldable pub read_lines : List (List ℕ) → Option (List Conj)
read_lines [] = some []
read_lines (l ∷ ls) = tokens_on (tokens l) (read_lines ls)

-- one pass over the text
unfoldable pub parse : List ℕ → Option (List Conj)
parse text = read_lines (lines_of text)
