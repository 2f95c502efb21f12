-- The proof of the cycle of calls {read_hedge, read_term}. The words left fall: `read_term` at a place is below `read_hedge` at the same place.
-- The loop of `read_hedge` keeps what is to be returned: what reading at `i` gives is what reading at `at` gives.
-- Assumes nothing.
use Prim.Native.Nat.{◌≤◌, ◌+◌, ◌-◌, ◌*◌}
use mathlib.Core.Path.{◌≡◌}
use lib.ListN.{length, drop}
use Rattle.language.specs.Limits.{desk}
use Rattle.language.specs.Reading.{read_hedge}
use Rattle.trees.specs.Places.{placed}
use Rattle.trees.proofs.+read_hedge_read_term.Given as goal

abbrev pub decreases-read_hedge : goal.decreases-read_hedge
decreases-read_hedge l = 2 * (length l.w.now - l.at) + 1

abbrev pub invariant-read_hedge-loop-i : goal.invariant-read_hedge-loop-i
invariant-read_hedge-loop-i l = (l.at ≤ l.i) × (placed l.i (read_hedge desk (drop l.i l.w)) ≡ placed l.at (read_hedge desk (drop l.at l.w)))

abbrev pub decreases-read_hedge-loop-i : goal.decreases-read_hedge-loop-i
decreases-read_hedge-loop-i l = length l.w - l.i

abbrev pub decreases-read_term : goal.decreases-read_term
decreases-read_term l = 2 * (length l.w.now - l.at)
