-- `has_term`: what is left has a term exactly if the whole has.
use mathlib.Core.Path.{◌≡◌}
use mathlib.Core.List.{List}
use Prim.Native.Nat.{ℕ, ◌-◌}
use lib.ListN.{length, get_or}
use Rattle.language.specs.Trees.{Hedge}
use Rattle.rules.specs.Looks.{has_term}
use Rattle.views.specs.Standing.{Stands}
use Rattle.finds.proofs.Walks.{Passed}
use Rattle.finds.specs.Places.{runs_end}
use Rattle.finds.proofs.Firsts.{Going}
use Rattle.spots.proofs.has_term.Given as goal

abbrev pub invariant-loop-x : goal.invariant-loop-x
invariant-loop-x l = ((h : Hedge) (beyond : List ℕ) → Stands l.k l.at h beyond → Passed l.k l.at l.i beyond (λ done left. has_term left ≡ has_term h)) × (l.x ≡ get_or l.k l.i 0) × Going l.k l.at (runs_end l.k) l.i

abbrev pub decreases-loop-x : goal.decreases-loop-x
decreases-loop-x l = length l.k - l.i
