-- `stands`: the word stands in the part exactly if it stands in what is left of it.
use mathlib.Core.Path.{◌≡◌}
use lib.Seq.{slice}
use Rattle.words.specs.Spans.{member}
use Rattle.words.proofs.stands.Given as goal

abbrev pub invariant-loop-i : goal.invariant-loop-i
invariant-loop-i l = member l.x (slice l.i l.to l.k) ≡ member l.x (slice l.from l.to l.k)
