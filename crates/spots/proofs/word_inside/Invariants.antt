-- `word_inside`: the variable is none of the elements passed, but for the first.
use mathlib.Core.Path.{◌≡◌}
use mathlib.Core.List.{List}
use Prim.Native.Nat.{ℕ, ◌-◌}
use lib.ListN.{length, get_or}
use Rattle.language.specs.Limits.{desk}
use Rattle.language.specs.declared.HedgeVar.{HedgeVar}
use Rattle.language.specs.Trees.{Hedge, hv}
use Rattle.views.specs.Variables.{variable_word, fine_var}
use Rattle.views.specs.Standing.{Stands}
use Rattle.finds.proofs.Walks.{Passed}
use Rattle.finds.proofs.Searches.{Behind}
use Rattle.words.specs.Spans.{element_end}
use Rattle.finds.specs.Places.{others_end}
use Rattle.finds.proofs.Firsts.{Going}
use Rattle.spots.proofs.word_inside.Given as goal

abbrev pub invariant-loop-x : goal.invariant-loop-x
invariant-loop-x l = ((q : HedgeVar) (h : Hedge) (beyond : List ℕ) → fine_var desk (hv q) → l.p ≡ variable_word (hv q) → Stands l.k l.at h beyond → Passed l.k l.at l.i beyond (Behind q h)) × (l.x ≡ get_or l.k l.i 0) × Going l.k (element_end l.k l.at) (others_end l.p l.k) l.i

abbrev pub decreases-loop-x : goal.decreases-loop-x
decreases-loop-x l = length l.k - l.i
