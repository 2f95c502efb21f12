-- The loop's invariant: the marked places before i are listed.
use mathlib.Core.Path.{◌≡◌}
use Prim.Native.Nat.{◌≤◌}
use lib.ListN.{length}
use Rattle.clash.specs.Symbols.{Collected}
use Rattle.clash.proofs.symbols.collect.Given as goal

abbrev pub invariant-loop-i : goal.invariant-loop-i
invariant-loop-i l = (l.from ≤ l.i) × (l.i ≤ l.to) × (length l.list ≡ length l.initial.list) × Collected l.marks l.from l.i l.list l.n
