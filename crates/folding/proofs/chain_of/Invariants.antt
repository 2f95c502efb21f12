-- `chain_of`: the words that are left, from what those passed gave, give what all give.
use Prim.Native.Nat.{◌<◌}
use mathlib.Core.Path.{◌≡◌}
use lib.Seq.{slice}
use Rattle.folding.specs.Chains.{mixed}
use Rattle.folding.proofs.chain_of.Given as goal

abbrev pub invariant-loop-i : goal.invariant-loop-i
invariant-loop-i l = (l.s < 4294967296) × (mixed l.s (slice l.i l.to l.k) ≡ mixed 0 (slice l.from l.to l.k))
