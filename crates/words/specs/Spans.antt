-- A word among others, and places in a hedge's words, element by element.
use Rattle.std.specs.Prelude.{ℕ, zero, suc, ◌+◌, ◌-◌, Bool, false, ◌||◌, List, [], ◌∷◌, eqb, get_or, drop}
use Rattle.language.specs.declared.Kind.{Kind}
use Rattle.language.specs.declared.Kind.TheVariants.{End, Term, Run, Symbol, Function, Equation, Membership, Eps, Cat, Alt, Star, Other}
use Rattle.language.specs.Limits.{desk}
use Rattle.language.specs.Kinds.{pick, kind_of}

-- whether a word stands among others
abbrev pub member : ℕ → List ℕ → Bool
member x [] = false
member x (y ∷ ws) = eqb y x || member x ws

-- in a hedge, how many hedges are still to come after a word, beside the one it stands in: none after 0, one after a variable, two after a functor
abbrev pub opens_by : Kind → ℕ
opens_by End = 0
opens_by (Term x) = 1
opens_by (Run p) = 1
opens_by (Symbol f) = 2
opens_by (Function X) = 2
opens_by Equation = 1
opens_by Membership = 1
opens_by Eps = 1
opens_by Cat = 1
opens_by Alt = 1
opens_by Star = 1
opens_by Other = 1

unfoldable pub opens : ℕ → ℕ
opens x = opens_by (kind_of desk x)

-- how many words n hedges take
unfoldable pub span : ℕ → List ℕ → ℕ
span n [] = 0
span zero (x ∷ ws) = 0
span (suc n) (x ∷ ws) = suc (span (n + opens x) ws)

-- the place after the element at i, or i where the hedge ends there
unfoldable pub element_end : List ℕ → ℕ → ℕ
element_end k i = pick (eqb (get_or k i 0) 0) i (i + 1 + span (opens (get_or k i 0) - 1) (drop (i + 1) k))

-- n places, element by element
unfoldable pub places : ℕ → List ℕ → ℕ → List ℕ
places zero k i = []
places (suc n) k i = i ∷ places n k (element_end k i)
