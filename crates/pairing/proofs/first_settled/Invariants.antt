-- `pairing::first_settled` meets its contract. The invariant: the first one from here on is the first of all.
use Prim.Native.Nat.{◌-◌}
use mathlib.Core.Path.{◌≡◌}
use Rattle.pairing.specs.Lent.{marked_from}
use Rattle.pairing.proofs.first_settled.Given as goal

abbrev pub invariant-loop-i : goal.invariant-loop-i
invariant-loop-i l = marked_from l.answer l.i (l.lines - l.i) ≡ marked_from l.answer 0 l.lines
