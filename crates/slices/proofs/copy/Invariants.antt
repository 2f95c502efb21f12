-- The loop's invariant: the words of the rest of the part are still to come.
use lib.Seq.{slice}
use Rattle.slices.proofs.Still.{Still}
use Rattle.slices.proofs.copy.Given as goal

abbrev pub invariant-loop-i : goal.invariant-loop-i
invariant-loop-i l = Still l.initial.out l.at (slice l.from l.to l.k) l.out l.e (slice l.i l.to l.k)
