-- The loop's invariant: the pieces from the i-th on are still to come.
use Prim.Native.Nat.{◌≤◌}
use Rattle.slices.proofs.Still.{Still}
use Rattle.results.proofs.Made.{whole, from}
use Rattle.results.proofs.making.write_made.Given as goal

abbrev pub invariant-loop-slot : goal.invariant-loop-slot
invariant-loop-slot l = Still l.initial.out l.at (from l.k (whole l.slot-items l.s) l.cut l.nth 0) l.out l.e (from l.k (whole l.slot-items l.s) l.cut l.nth l.slot-index) × (l.slot-index ≤ 12)
