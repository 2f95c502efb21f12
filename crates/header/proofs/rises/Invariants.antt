-- `header::rises` meets its contract. The loop keeps what is to be returned.
-- Assumes nothing.
use mathlib.Core.Path.{◌≡◌}
use lib.ListN.{length}
use Rattle.language.specs.Question.{rising}
use Rattle.language.specs.Between.{between}
use Rattle.header.proofs.rises.Given as goal

abbrev pub invariant-loop-i : goal.invariant-loop-i
invariant-loop-i l = rising l.last (between l.i l.stop l.w) (length l.w) ≡ rising l.from (between l.at l.stop l.w) (length l.w)
