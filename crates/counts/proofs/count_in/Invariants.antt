-- `count_in`: what is left of the part, from the table so far, gives what all of it gives.
use Prim.Native.Nat.{ℕ, ◌+◌, ◌-◌, ◌<◌}
use mathlib.Core.Path.{◌≡◌}
use lib.ListN.{length, get_or}
use lib.Seq.{slice}
use Rattle.counts.specs.Tables.{table, added}
use Rattle.counts.proofs.count_in.Given as goal

abbrev pub invariant-loop-i : goal.invariant-loop-i
invariant-loop-i l = (length l.t ≡ table) × ((x : ℕ) → get_or l.t x 0 + (l.to - l.i) < 65536) × (added (slice l.i l.to l.k) l.t ≡ added (slice l.from l.to l.k) l.initial.t)
