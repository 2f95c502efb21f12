-- `same_part`: what is left of the two parts is compared, word by word.
use mathlib.Core.Path.{◌≡◌}
use lib.Seq.{slice}
use Rattle.words.specs.Places.{same_list}
use Rattle.words.proofs.same_part.Given as goal

abbrev pub invariant-loop-i : goal.invariant-loop-i
invariant-loop-i l = same_list (slice l.i l.to l.k) (slice l.j l.end l.k) ≡ same_list (slice l.from l.to l.k) (slice l.start l.end l.k)
