-- `overlap::rows` meets its contract.
use Prim.Native.Nat.{◌-◌}
use Rattle.overlap.proofs.Tabling.{Rowing}
use Rattle.overlap.proofs.rows.Given as goal

abbrev pub invariant-loop-k : goal.invariant-loop-k
invariant-loop-k l = Rowing l.size l.word l.sheet l.i l.from l.n l.initial.room l.to l.room l.at l.j l.k
