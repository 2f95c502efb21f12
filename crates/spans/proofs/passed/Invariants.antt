-- `passed`: the words that are left to pass end where those at the start do.
use mathlib.Core.Path.{◌≡◌}
use Prim.Native.Nat.{◌+◌, ◌≤◌, max}
use lib.ListN.{length, drop}
use Rattle.words.specs.Spans.{span}
use Rattle.spans.proofs.passed.Given as goal

abbrev pub invariant-loop-i : goal.invariant-loop-i
invariant-loop-i l = (l.i ≤ max l.at (length l.k)) × (l.need + l.at ≤ l.i + 2) × (l.i + span l.need (drop l.i l.k) ≡ l.at + span l.hedges (drop l.at l.k))
