-- A part's words are written one by one: what is still to come, written from here on, completes the whole.
use mathlib.Core.Path.{◌≡◌}
use lib.ListN.{length}
use Rattle.values.proofs.Parts.{Writing}
use Rattle.values.proofs.write_part.Given as goal

abbrev pub invariant-loop-i : goal.invariant-loop-i
invariant-loop-i l = (length l.out ≡ length l.initial.out) × Writing l.any l.k l.from l.to l.initial.out l.at l.i l.out l.e
