-- `all_terms`: what is left is terms alone exactly if the whole is, and the elements passed are counted.
use mathlib.Core.Path.{◌≡◌}
use mathlib.Core.List.{List}
use Prim.Native.Nat.{ℕ, ◌+◌, ◌-◌, ◌≤◌}
use lib.ListN.{length, get_or}
use Rattle.language.specs.Trees.{Hedge}
use Rattle.rules.specs.Looks.{all_terms}
use Rattle.views.specs.Standing.{Stands}
use Rattle.finds.specs.Walks.{size}
use Rattle.finds.proofs.Walks.{Passed}
use Rattle.finds.specs.Places.{terms_end}
use Rattle.finds.proofs.Firsts.{Gone}
use Rattle.finds.proofs.all_terms.Given as goal

abbrev pub invariant-loop-x : goal.invariant-loop-x
invariant-loop-x l = ((h : Hedge) (beyond : List ℕ) → Stands l.k l.at h beyond → Passed l.k l.at l.i beyond (λ done left. (all_terms left ≡ all_terms h) × (l.n + size left ≡ size h)))
    × (l.x ≡ get_or l.k l.i 0) × (l.n ≤ l.i) × (l.n ≤ length l.k) × Gone l.k l.at (terms_end l.k) l.n l.i

abbrev pub decreases-loop-x : goal.decreases-loop-x
decreases-loop-x l = length l.k - l.i
