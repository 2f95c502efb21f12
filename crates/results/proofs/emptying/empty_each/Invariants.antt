-- The loop's invariant: the equations of the rest of the part are still to come.
use lib.Seq.{slice}
use Rattle.plans.specs.Results.{empty_each}
use Rattle.slices.proofs.Still.{Still}
use Rattle.results.proofs.emptying.empty_each.Given as goal

abbrev pub invariant-loop-i : goal.invariant-loop-i
invariant-loop-i l = Still l.initial.out l.at (empty_each (slice l.from l.to l.k)) l.out l.e (empty_each (slice l.i l.to l.k))
