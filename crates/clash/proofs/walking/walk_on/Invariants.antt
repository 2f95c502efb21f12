-- The loop's invariant: the pairs before i are gone on from.
use Prim.Native.Nat.{◌-◌}
use mathlib.Core.Path.{◌≡◌}
use lib.ListN.{length}
use Rattle.clash.specs.Chains.{stops}
use Rattle.clash.proofs.Going.{Walks}
use Rattle.clash.proofs.walking.walk_on.Given as goal

abbrev pub invariant-loop-i : goal.invariant-loop-i
invariant-loop-i l = Walks l.chart.words.now l.classes l.at l.initial.met.left l.initial.met.right l.met.left l.met.right l.empty l.met.count l.i × (length l.empty ≡ length l.initial.empty)

abbrev pub decreases-loop-i : goal.decreases-loop-i
decreases-loop-i l = stops - l.i
