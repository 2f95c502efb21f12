-- The loop keeps what is to be written.
use Rattle.write_text.proofs.Lining.{Lining}
use lib.ListN.{length}
use Prim.Native.Nat.{◌-◌}
use Rattle.write_text.proofs.lines.put_line.Given as goal

abbrev pub invariant-loop-i : goal.invariant-loop-i
invariant-loop-i l = Lining l.stop l.w l.initial.out l.to l.i l.s l.out l.n

abbrev pub decreases-loop-i : goal.decreases-loop-i
decreases-loop-i l = length l.w - l.i
