-- `conjunctions::read_conj` meets its contract. The loop keeps what is to be returned: what reading at `i` gives is what reading all words gives.
-- Assumes nothing.
use Prim.Native.Nat.{◌-◌}
use mathlib.Core.Path.{◌≡◌}
use lib.ListN.{length, drop}
use Rattle.language.specs.Limits.{desk}
use Rattle.language.specs.Reading.{read_conj}
use Rattle.trees.specs.Places.{placed}
use Rattle.conjunctions.proofs.read_conj.Given as goal

abbrev pub invariant-loop-i : goal.invariant-loop-i
invariant-loop-i l = placed l.i (read_conj desk (drop l.i l.w)) ≡ placed 0 (read_conj desk l.w)

abbrev pub decreases-loop-i : goal.decreases-loop-i
decreases-loop-i l = length l.w - l.i
