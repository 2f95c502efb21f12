-- The loop's invariant: what is counted and the length of the pieces from the i-th on make the whole.
use Prim.Native.Nat.{◌+◌, ◌*◌, ◌≤◌}
use mathlib.Core.Path.{◌≡◌}
use lib.ListN.{length}
use Rattle.language.specs.Limits.{desk}
use Rattle.results.proofs.Made.{whole, from}
use Rattle.results.proofs.making.made_len.Given as goal

abbrev pub invariant-loop-slot : goal.invariant-loop-slot
invariant-loop-slot l = (l.n + length (from l.k (whole l.slot-items l.s) l.cut 0 l.slot-index) ≡ length (from l.k (whole l.slot-items l.s) l.cut 0 0)) × (l.n ≤ desk.question * desk.question * l.slot-index) × (l.slot-index ≤ 12)
