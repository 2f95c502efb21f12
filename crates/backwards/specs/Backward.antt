-- The bytes of an expression, the last first: a name is taken when the byte before it is met.
use Rattle.std.specs.Prelude.{ℕ, ◌+◌, Bool, true, false, List, [], ◌∷◌, length}
use Rattle.language.specs.Kinds.{pick}
use Rattle.grammar.specs.Tokens.{comma, opens, closes, plus, times, name_byte, blank, begins_name, name_token}
use Rattle.texts.specs.Numbering.{Naming}
use Rattle.lexing.specs.declared.Mark.{Mark}
use Rattle.lexing.specs.declared.Mark.TheVariants.{End, Bad, Symbol, One, Run, Function, Equals, Comma, Opens, Closes, Plus, Times}
use Rattle.lexing.specs.Bytes.{name_from, mark_of}
use Rattle.flat.specs.Filling.{Frame, Filled, turn}

-- the name that stands first, if one does
abbrev pub taken : Naming → List ℕ → Filled → Filled
taken ρ bs f = pick (begins_name bs) (turn ρ (name_token (name_from bs)) f) f

-- a character of an expression
abbrev pub marked : Naming → Mark → Filled → Filled
marked ρ End f = f
marked ρ Bad f = f
marked ρ Symbol f = f
marked ρ One f = f
marked ρ Run f = turn ρ times f
marked ρ Function f = f
marked ρ Equals f = f
marked ρ Comma f = turn ρ comma f
marked ρ Opens f = turn ρ opens f
marked ρ Closes f = turn ρ closes f
marked ρ Plus f = turn ρ plus f
marked ρ Times f = f

unfoldable pub backwards : Naming → List ℕ → Filled → Filled
backwards ρ [] f = f
backwards ρ (b ∷ bs) f = pick (name_byte b) (backwards ρ bs f) (pick (blank b) (taken ρ bs (backwards ρ bs f)) (marked ρ (mark_of b) (taken ρ bs (backwards ρ bs f))))

-- ---- how many words there are and are still owed

abbrev pub one-if : Bool → ℕ
one-if true = 1
one-if false = 0

abbrev pub owed_in : List Frame → ℕ
owed_in [] = 0
owed_in (g ∷ gs) = g.stars + one-if g.operand + one-if g.item + owed_in gs

unfoldable pub weight : Filled → ℕ
weight f = length f.words + (f.stars + one-if f.operand + one-if f.item) + owed_in f.owed
