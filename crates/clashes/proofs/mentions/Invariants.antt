-- `mentions`: one stands in the part exactly if one stands in what is left of it.
use Prim.Native.Nat.{◌-◌}
use mathlib.Core.Path.{◌≡◌}
use lib.Seq.{slice}
use Rattle.clashes.specs.Pairs.{some_unordered}
use Rattle.clashes.proofs.mentions.Given as goal

abbrev pub invariant-loop-i : goal.invariant-loop-i
invariant-loop-i l = some_unordered l.s (slice l.i l.to l.k) ≡ some_unordered l.s (slice l.from l.to l.k)
