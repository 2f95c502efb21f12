-- Recipes by their pieces, and plans by their recipes.
use Rattle.std.specs.Prelude.{ℕ, ◌+◌, ◌-◌, List, [], ◌∷◌, eqb, ltb, length}
use Rattle.language.specs.Kinds.{pick}
use Rattle.language.specs.Trees.{Hedge, ε, tvar, hvar, node}
use Rattle.plans.specs.declared.Piece.{Piece}
use Rattle.plans.specs.declared.Piece.TheVariants.{Copy}
use Rattle.plans.specs.declared.Slot.{Slot}
use Rattle.plans.specs.declared.Recipe.{Recipe}
use Rattle.plans.specs.declared.Ways.{Ways}
use Rattle.plans.specs.declared.Ways.TheVariants.{Drop}
use Rattle.plans.specs.declared.Plan.{Plan}
use Rattle.plans.specs.declared.Within.{Within}

-- no words
abbrev pub nothing : Piece
nothing = Copy 0 0

abbrev pub slot : Piece → Slot
slot a = record { piece = a }

-- twelve pieces; the words of old..until are replaced by those from `new` to the cut
abbrev pub full_recipe : Piece → Piece → Piece → Piece → Piece → Piece → Piece → Piece → Piece → Piece → Piece → Piece → ℕ → ℕ → ℕ → Recipe
full_recipe a b c d e f g h i j k l old until new =
    record {
      slots = slot a ∷ slot b ∷ slot c ∷ slot d ∷ slot e ∷ slot f ∷ slot g ∷ slot h ∷ slot i ∷ slot j ∷ slot k ∷ slot l ∷ [];
      old = old;
      until = until;
      new = new;
    }

-- five pieces
abbrev pub few_recipe : Piece → Piece → Piece → Piece → Piece → ℕ → ℕ → ℕ → Recipe
few_recipe a b c d e old until new = full_recipe a b c d e nothing nothing nothing nothing nothing nothing nothing old until new

abbrev pub blank_recipe : Recipe
blank_recipe = few_recipe nothing nothing nothing nothing nothing 0 0 0

abbrev pub plan_of : Ways → Recipe → Recipe → Plan
plan_of ways first second = record { ways = ways; first = first; second = second }

-- a plan of one recipe
abbrev pub single : Ways → Recipe → Plan
single ways first = plan_of ways first first

-- the plan of a rule that drops the conjunction
abbrev pub drop_plan : Plan
drop_plan = single Drop blank_recipe

-- the plan that a table has for a place in the list of rules; those that it does not have drop the conjunction
abbrev pub tabled : ℕ → List (ℕ × Plan) → Plan
tabled n [] = drop_plan
tabled n (t ∷ ts) = pick (eqb n t.0) t.1 (tabled n ts)

-- the next place, within n words
unfoldable pub forth_in : ℕ → ℕ → ℕ
forth_in n i = pick (ltb i n) (i + 1) i

-- a part of k without its first and its last word
abbrev pub inner_of : List ℕ → ℕ → ℕ → Within
inner_of k from to = record { from = forth_in (length k) from; to = to - 1 }

-- the children of a single term
abbrev pub children_of : Hedge → Hedge
children_of ε = ε
children_of (tvar x r) = ε
children_of (hvar p r) = ε
children_of (node f c r) = c
