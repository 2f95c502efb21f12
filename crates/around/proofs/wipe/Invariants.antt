-- `wipe`: after i turns the room is i zeros and then its own words.
use Prim.Native.Nat.{◌≤◌}
use mathlib.Core.Path.{◌≡◌}
use mathlib.Core.List.{◌++◌}
use lib.ListN.{length, drop, replicate}
use Rattle.around.proofs.wipe.Given as goal

abbrev pub invariant-loop-i : goal.invariant-loop-i
invariant-loop-i l = (l.i ≤ length l.initial.s) × (l.s ≡ replicate l.i 0 ++ drop l.i l.initial.s) × (length l.s ≡ length l.initial.s)
