-- What was counted, and what is left of the part.
use Prim.Native.Nat.{◌+◌, ◌≤◌}
use mathlib.Core.Path.{◌≡◌}
use lib.Seq.{slice}
use Rattle.counts.specs.Tables.{times}
use Rattle.applies.proofs.counted.times_in.Given as goal

abbrev pub invariant-loop-i : goal.invariant-loop-i
invariant-loop-i l = (l.n ≤ l.i) × (l.n + times l.x (slice l.i l.to l.k) ≡ times l.x (slice l.from l.to l.k))
