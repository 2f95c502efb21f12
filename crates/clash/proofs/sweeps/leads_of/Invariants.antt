-- The loop's invariant: none of the first list before i does.
use Prim.Native.Nat.{ℕ, ◌<◌, ◌≤◌}
use lib.ListN.{get_or}
use Rattle.clash.specs.Sweeping.{SomeWith}
use Rattle.clash.proofs.sweeps.leads_of.Given as goal

abbrev pub invariant-loop-i : goal.invariant-loop-i
invariant-loop-i l = (l.i ≤ l.ones) × ((j : ℕ) → j < l.i → SomeWith l.k l.classes l.met.left l.met.right l.met.count l.inner l.rest (get_or l.ps j 0) l.qs l.others → ⊥)
