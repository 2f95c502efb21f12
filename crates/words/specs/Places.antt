-- Places in a conjunction's words.
use Rattle.std.specs.Prelude.{ℕ, suc, Bool, true, false, ◌&&◌, ◌||◌, List, [], ◌∷◌, eqb}
use Rattle.language.specs.Kinds.{pick}

-- a word that begins a literal
abbrev pub begins : ℕ → Bool
begins x = eqb x 5000 || eqb x 6000

-- how many words stand before the next literal
unfoldable pub until_literal : List ℕ → ℕ
until_literal [] = 0
until_literal (x ∷ ws) = pick (begins x) 0 (suc (until_literal ws))

-- the same words
abbrev pub same_list : List ℕ → List ℕ → Bool
same_list [] ys = elim ys [ [] ↦ true | y ∷ vs ↦ false ]
same_list (x ∷ ws) ys = elim ys [ [] ↦ false | y ∷ vs ↦ eqb x y && same_list ws vs ]
