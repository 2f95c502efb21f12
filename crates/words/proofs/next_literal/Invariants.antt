-- `next_literal`: from each place passed the next literal is the same.
use Prim.Native.Nat.{◌+◌}
use mathlib.Core.Path.{◌≡◌}
use lib.ListN.{drop}
use Rattle.words.specs.Places.{until_literal}
use Rattle.words.proofs.next_literal.Given as goal

abbrev pub invariant-loop-i : goal.invariant-loop-i
invariant-loop-i l = l.i + until_literal (drop l.i l.k) ≡ l.at + 1 + until_literal (drop (l.at + 1) l.k)
