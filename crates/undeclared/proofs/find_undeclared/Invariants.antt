-- `undeclared::find_undeclared` meets its contract. The loop keeps what is to be returned.
-- Assumes nothing.
use mathlib.Core.Path.{◌≡◌}
use lib.ListN.{drop}
use Rattle.language.specs.Limits.{desk}
use Rattle.header.specs.Heading.{counts_in}
use Rattle.undeclared.specs.Scanning.{first_undeclared}
use Rattle.undeclared.proofs.find_undeclared.Given as goal

abbrev pub invariant-loop-i : goal.invariant-loop-i
invariant-loop-i l = first_undeclared desk (counts_in l.h) l.i (drop l.i l.w) ≡ first_undeclared desk (counts_in l.h) l.from (drop l.from l.w)
