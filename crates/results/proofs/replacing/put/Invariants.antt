-- The loop's invariant: what stands for the rest of the part is still to come.
use lib.Seq.{slice}
use Rattle.plans.specs.Results.{replaced}
use Rattle.slices.proofs.Still.{Still}
use Rattle.results.proofs.replacing.put.Given as goal

abbrev pub invariant-loop-i : goal.invariant-loop-i
invariant-loop-i l = Still l.initial.out l.at (replaced (slice l.old l.until l.k) (slice l.new l.cut l.k) (slice l.from l.to l.k)) l.out l.e (replaced (slice l.old l.until l.k) (slice l.new l.cut l.k) (slice l.i l.to l.k))
