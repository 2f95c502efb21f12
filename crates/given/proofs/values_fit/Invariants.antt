-- `given::values_fit` meets its contract. The loop walks along the parts.
use Prim.Native.Nat.{◌≤◌, ◌-◌, ◌+◌}
use mathlib.Core.Path.{◌≡◌}
use lib.ListN.{length}
use Rattle.language.proofs.Walks.{Walk, passing}
use Rattle.meaning.specs.Values.{variables}
use Rattle.header.specs.Heading.{counts_in}
use Rattle.given.proofs.Forms.{value_test}
use Rattle.given.proofs.values_fit.Given as goal

abbrev pub invariant-loop-i : goal.invariant-loop-i
invariant-loop-i l = (l.stop ≡ l.n + 2) × (l.stop ≤ length l.filling) × (l.n ≡ variables (counts_in l.h)) × Walk (passing (value_test (counts_in l.h))) 1 l.n l.filling l.i l.from
