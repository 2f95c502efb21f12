-- `literal_number`: those passed are counted, and none is past the place.
use Prim.Native.Nat.{◌-◌, ◌≤◌}
use Rattle.language.specs.Trees.{Literal, Conj}
use Rattle.views.specs.Standing.{LiteralAt}
use Rattle.literals.proofs.Walks.{Counted}
use Rattle.literals.proofs.literal_number.Given as goal

abbrev pub invariant-loop-i : goal.invariant-loop-i
invariant-loop-i l = (l.n ≤ l.i) × (l.i ≤ l.at) × ((before : Conj) (a : Literal) (behind : Conj) → LiteralAt l.k l.at before a behind → Counted before l.n l.i)

abbrev pub decreases-loop-i : goal.decreases-loop-i
decreases-loop-i l = l.at - l.i
