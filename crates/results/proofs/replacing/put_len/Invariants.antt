-- The loop's invariant: what is counted and the length of what stands for the rest of the part make the whole.
use Prim.Native.Nat.{◌+◌}
use mathlib.Core.Path.{◌≡◌}
use lib.ListN.{length}
use lib.Seq.{slice}
use Rattle.plans.specs.Results.{replaced}
use Rattle.results.proofs.replacing.put_len.Given as goal

abbrev pub invariant-loop-i : goal.invariant-loop-i
invariant-loop-i l = l.n + length (replaced (slice l.old l.until l.k) (slice l.new l.cut l.k) (slice l.i l.to l.k)) ≡ length (replaced (slice l.old l.until l.k) (slice l.new l.cut l.k) (slice l.from l.to l.k))
