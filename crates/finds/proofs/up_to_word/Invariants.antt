-- `up_to_word`: the terms passed do not hold the variable, and are counted.
use mathlib.Core.Path.{◌≡◌}
use mathlib.Core.List.{List}
use Prim.Native.Nat.{ℕ, ◌-◌, ◌≤◌}
use lib.ListN.{length, get_or}
use Rattle.language.specs.Limits.{desk}
use Rattle.language.specs.declared.HedgeVar.{HedgeVar}
use Rattle.language.specs.Trees.{Hedge, hv}
use Rattle.views.specs.Variables.{variable_word, fine_var}
use Rattle.views.specs.Standing.{Stands}
use Rattle.finds.proofs.Walks.{Passed}
use Rattle.finds.proofs.Searches.{Without}
use Rattle.finds.specs.Places.{free_end}
use Rattle.finds.proofs.Firsts.{Gone}
use Rattle.finds.proofs.up_to_word.Given as goal

abbrev pub invariant-loop-e : goal.invariant-loop-e
invariant-loop-e l = ((q : HedgeVar) (h : Hedge) (beyond : List ℕ) → fine_var desk (hv q) → l.p ≡ variable_word (hv q) → Stands l.k l.at h beyond → Passed l.k l.at l.i beyond (Without q l.n h))
    × (l.x ≡ get_or l.k l.i 0) × (l.n ≤ l.i) × (l.n ≤ length l.k) × Gone l.k l.at (free_end l.p l.k) l.n l.i

abbrev pub decreases-loop-e : goal.decreases-loop-e
decreases-loop-e l = length l.k - l.i
