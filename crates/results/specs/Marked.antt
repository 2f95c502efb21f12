-- Hedge variables marked by their numbers, so that whether a word is one of many is one look and not a scan.
use Rattle.std.specs.Prelude.{ℕ, ◌≡◌, Bool, true, false, List, [], ◌∷◌, get_or, Option, Some}
use Rattle.language.specs.declared.Kind.{Kind}
use Rattle.language.specs.declared.Kind.TheVariants.{End, Term, Run, Symbol, Function, Equation, Membership, Eps, Cat, Alt, Star, Other}
use Rattle.language.specs.Limits.{desk}
use Rattle.language.specs.Kinds.{pick, kind_of}
use Rattle.words.specs.Spans.{member}
use Rattle.plans.specs.declared.Recipe.{Recipe}
use Rattle.results.specs.declared.replacing.Swap.{Swap}

-- a hedge variable's word whose number is marked
abbrev pub marked_by : List Bool → Kind → Bool
marked_by set (Run p) = get_or set p.0 false
marked_by set End = false
marked_by set (Term x) = false
marked_by set (Symbol f) = false
marked_by set (Function X) = false
marked_by set Equation = false
marked_by set Membership = false
marked_by set Eps = false
marked_by set Cat = false
marked_by set Alt = false
marked_by set Star = false
marked_by set Other = false

unfoldable pub marked : List Bool → ℕ → Bool
marked set x = marked_by set (kind_of desk x)

-- where the words are hedge variables alone, the marks say which
pub record Marked (words : List ℕ) (m : Option (List Bool)) : Type 0 where
  pub told : (set : List Bool) → m ≡ Some set → (x : ℕ) → marked set x ≡ member x words

-- what is written for one word
unfoldable pub swapped : List ℕ → List ℕ → ℕ → List ℕ
swapped old new x = pick (member x old) new (x ∷ [])

-- the substitution of a recipe, without its pieces
abbrev pub bare : Swap → Recipe
bare s = record { slots = []; old = s.old; until = s.until; new = s.new }
