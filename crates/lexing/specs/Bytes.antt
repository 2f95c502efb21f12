-- A text from a place on: its line, the lines behind that, the name that stands first; and what a byte begins.
use Rattle.std.specs.Prelude.{ℕ, suc, ◌+◌, ◌*◌, Bool, List, [], ◌∷◌, eqb}
use Rattle.language.specs.Kinds.{pick}
use Rattle.grammar.specs.Tokens.{name_byte, blank}
use Rattle.grammar.specs.Grammar.{lines_of}
use Rattle.lexing.specs.declared.Mark.{Mark}
use Rattle.lexing.specs.declared.Mark.TheVariants.{End, Bad, Symbol, One, Run, Function, Equals, Comma, Opens, Closes, Plus, Times}

-- the bytes up to the end of the line
unfoldable pub line : List ℕ → List ℕ
line [] = []
line (b ∷ bs) = pick (eqb b 10) [] (b ∷ line bs)

-- the lines behind it
unfoldable pub others : List ℕ → List (List ℕ)
others [] = []
others (b ∷ bs) = pick (eqb b 10) (lines_of bs) (others bs)

-- the number of the name that stands first, or 0
unfoldable pub name_from : List ℕ → ℕ
name_from [] = 0
name_from (b ∷ bs) = pick (name_byte b) (b + 256 * name_from bs) 0

-- how many bytes of a sort stand first
unfoldable pub leading : (ℕ → Bool) → List ℕ → ℕ
leading t [] = 0
leading t (b ∷ bs) = pick (t b) (suc (leading t bs)) 0

abbrev pub name_length : List ℕ → ℕ
name_length bs = leading name_byte bs

abbrev pub blanks : List ℕ → ℕ
blanks bs = leading blank bs

-- what a byte begins that is no blank and no end of a line
unfoldable pub mark_of : ℕ → Mark
mark_of b =
    pick (name_byte b) Symbol
    (pick (eqb b 63) One
    (pick (eqb b 42) Run
    (pick (eqb b 37) Function
    (pick (eqb b 61) Equals
    (pick (eqb b 44) Comma
    (pick (eqb b 40) Opens
    (pick (eqb b 41) Closes
    (pick (eqb b 43) Plus Bad))))))))

-- 0: no token; 1: a name; 2: a mark before a name; 3: a token by itself
abbrev pub sort_of : Mark → ℕ
sort_of End = 0
sort_of Bad = 0
sort_of Symbol = 1
sort_of One = 2
sort_of Run = 2
sort_of Function = 2
sort_of Equals = 3
sort_of Comma = 3
sort_of Opens = 3
sort_of Closes = 3
sort_of Plus = 3
sort_of Times = 3

-- where no name follows, * is a star, and ? and % are nothing
abbrev pub alone : Mark → Mark
alone End = Bad
alone Bad = Bad
alone Symbol = Bad
alone One = Bad
alone Run = Times
alone Function = Bad
alone Equals = Bad
alone Comma = Bad
alone Opens = Bad
alone Closes = Bad
alone Plus = Bad
alone Times = Bad
