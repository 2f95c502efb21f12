-- `word_under`: the variable stands below a functor of what is left exactly if it does so in the whole.
use mathlib.Core.Path.{◌≡◌}
use mathlib.Core.List.{List}
use Prim.Native.Nat.{ℕ, ◌-◌}
use lib.ListN.{length, get_or}
use Rattle.language.specs.Limits.{desk}
use Rattle.language.specs.Trees.{Hedge, Var}
use Rattle.rules.specs.Looks.{under as below_top}
use Rattle.views.specs.Variables.{variable_word, fine_var}
use Rattle.views.specs.Standing.{Stands}
use Rattle.finds.proofs.Walks.{Passed}
use Rattle.finds.specs.Places.{below_end}
use Rattle.finds.proofs.Firsts.{Going}
use Rattle.spots.proofs.word_under.Given as goal

abbrev pub invariant-loop-x : goal.invariant-loop-x
invariant-loop-x l = ((y : Var) (h : Hedge) (beyond : List ℕ) → fine_var desk y → l.v ≡ variable_word y → Stands l.k l.at h beyond → Passed l.k l.at l.i beyond (λ done left. below_top y left ≡ below_top y h))
    × (l.x ≡ get_or l.k l.i 0) × Going l.k l.at (below_end l.v l.k) l.i

abbrev pub decreases-loop-x : goal.decreases-loop-x
decreases-loop-x l = length l.k - l.i
