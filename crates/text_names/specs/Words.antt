-- The word of a token that has a name: by its kind, and the name's number.
use Rattle.std.specs.Prelude.{ℕ, ◌+◌, ◌*◌}
use Rattle.language.specs.Limits.{Limits}
use Rattle.texts.specs.Numbering.{symbols, terms, hedges, functions, Naming}
use Rattle.lexing.specs.declared.Mark.{Mark}
use Rattle.lexing.specs.declared.Mark.TheVariants.{End, Bad, Symbol, One, Run, Function, Equals, Comma, Opens, Closes, Plus, Times}
use Rattle.text_names.specs.Shelves.{width}

-- the first word of its kind, and its shelf
abbrev pub first_of : Mark → ℕ
first_of End = 0
first_of Bad = 0
first_of Symbol = 3000
first_of One = 1000
first_of Run = 2000
first_of Function = 4000
first_of Equals = 0
first_of Comma = 0
first_of Opens = 0
first_of Closes = 0
first_of Plus = 0
first_of Times = 0

abbrev pub shelf_by : Limits → Mark → ℕ
shelf_by L End = 0
shelf_by L Bad = 0
shelf_by L Symbol = 2 * width L
shelf_by L One = 0
shelf_by L Run = width L
shelf_by L Function = 3 * width L
shelf_by L Equals = 0
shelf_by L Comma = 0
shelf_by L Opens = 0
shelf_by L Closes = 0
shelf_by L Plus = 0
shelf_by L Times = 0

-- the token's own word
abbrev pub own_word : Naming → Mark → ℕ → ℕ
own_word ρ End n = 0
own_word ρ Bad n = 0
own_word ρ Symbol n = 3000 + ρ symbols n
own_word ρ One n = 1000 + ρ terms n
own_word ρ Run n = 2000 + ρ hedges n
own_word ρ Function n = 4000 + ρ functions n
own_word ρ Equals n = 0
own_word ρ Comma n = 0
own_word ρ Opens n = 0
own_word ρ Closes n = 0
own_word ρ Plus n = 0
own_word ρ Times n = 0
