-- The loop's invariant: a word of the part is marked or stands in what is left of it.
use lib.Seq.{slice}
use Rattle.results.proofs.Marking.{Marking}
use Rattle.results.proofs.replacing.note.Given as goal

abbrev pub invariant-loop-i : goal.invariant-loop-i
invariant-loop-i l = Marking l.set (slice l.i l.to l.k) (slice l.from l.to l.k)
