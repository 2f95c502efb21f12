-- `count_out`: what is left of the part, from the table so far, gives what all of it gives.
use Prim.Native.Nat.{ℕ, ◌<◌, ◌≤◌}
use mathlib.Core.Path.{◌≡◌}
use lib.ListN.{length, get_or}
use lib.Seq.{slice}
use Rattle.counts.specs.Tables.{times, table, removed}
use Rattle.counts.proofs.count_out.Given as goal

abbrev pub invariant-loop-i : goal.invariant-loop-i
invariant-loop-i l = (length l.t ≡ table) × ((x : ℕ) → x < table → times x (slice l.i l.to l.k) ≤ get_or l.t x 0) × (removed (slice l.i l.to l.k) l.t ≡ removed (slice l.from l.to l.k) l.initial.t)
