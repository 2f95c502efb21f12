-- `seek`: what is left of the chain was not compared yet.
use Prim.Native.Nat.{ℕ, ◌≤◌}
use Rattle.folding.specs.Chains.{Held}
use Rattle.folding.proofs.Chains.{Left}
use Rattle.folding.proofs.seek.Given as goal

abbrev pub invariant-loop-p : goal.invariant-loop-p
invariant-loop-p l = (l.p ≤ l.first) × ((q : ℕ) → Held l.next l.p q → Held l.next l.first q) × Left l.k l.next l.first l.at l.end l.p

abbrev pub decreases-loop-p : goal.decreases-loop-p
decreases-loop-p l = l.p
