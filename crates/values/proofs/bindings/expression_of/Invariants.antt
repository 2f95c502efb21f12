-- A walk over the literals finds the first membership that holds a variable: those passed do not.
use Prim.Native.Nat.{◌-◌}
use lib.ListN.{length}
use Rattle.language.specs.Trees.{Conj, Var}
use Rattle.values.specs.Lines.{Named, Line, Walk}
use Rattle.values.proofs.Places.{Seeking}
use Rattle.values.proofs.bindings.expression_of.Given as goal

abbrev pub invariant-loop-at : goal.invariant-loop-at
invariant-loop-at l = (c : Conj) (v : Var) → Line l.k c → Named v l.x → Walk l.k l.at c (Seeking c v)

abbrev pub decreases-loop-at : goal.decreases-loop-at
decreases-loop-at l = length l.k - l.at
