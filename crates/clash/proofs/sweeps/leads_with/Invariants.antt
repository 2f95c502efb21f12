-- The loop's invariant: none of the list before j does.
use Prim.Native.Nat.{ℕ, ◌<◌, ◌≤◌}
use lib.ListN.{get_or}
use Rattle.clash.specs.Sweeping.{Leading}
use Rattle.clash.proofs.sweeps.leads_with.Given as goal

abbrev pub invariant-loop-j : goal.invariant-loop-j
invariant-loop-j l = (l.j ≤ l.count) × ((i : ℕ) → i < l.j → Leading l.k l.classes l.met.left l.met.right l.met.count l.inner l.rest l.p (get_or l.qs i 0) → ⊥)
