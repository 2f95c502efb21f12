-- Passing an expression in prefix notation, whatever the words are.
use Rattle.std.specs.Prelude.{ℕ, zero, suc, ◌+◌, Bool, true, false, ◌&&◌, ◌||◌, List, [], ◌∷◌, eqb, leb, get_or, drop}
use Rattle.language.specs.Kinds.{pick}
use Rattle.expressions.specs.declared.Part.{Part}

-- how many expressions follow a word: none eps, one a star or a symbol, two a concatenation or a choice
unfoldable pub asks : ℕ → ℕ
asks x = pick (eqb x 7000) 0 (pick (eqb x 7003 || leb x 6999) 1 2)

-- how many words n expressions take
unfoldable pub reach : ℕ → List ℕ → ℕ
reach n [] = 0
reach zero (x ∷ ws) = 0
reach (suc n) (x ∷ ws) = suc (reach (n + asks x) ws)

-- by its first word and the expressions that follow it
unfoldable pub null_by : ℕ → Bool → Bool → Bool
null_by x a b = pick (eqb x 7000 || eqb x 7003) true (pick (leb x 6999) false (pick (eqb x 7001) (a && b) (a || b)))

-- which of the expressions in a row are nullable; one that breaks off is not
unfoldable pub nulls : List ℕ → List Bool
nulls [] = []
nulls (x ∷ ws) = null_by x (get_or (nulls ws) 0 false) (get_or (nulls ws) 1 false) ∷ drop (asks x) (nulls ws)

unfoldable pub part_at : List ℕ → ℕ → Part
part_at k at = record { end = at + reach 1 (drop at k); null = get_or (nulls (drop at k)) 0 false; bare = eqb (get_or k at 0) 7000 }
