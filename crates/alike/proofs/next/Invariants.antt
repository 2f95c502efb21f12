-- `alike::next` meets its contract. The invariant: what is left from y on is left from p on.
use Prim.Native.Nat.{◌-◌}
use lib.ListN.{length}
use Rattle.alike.proofs.Finding.{Passing}
use Rattle.alike.proofs.next.Given as goal

abbrev pub invariant-loop-p : goal.invariant-loop-p
invariant-loop-p l = Passing l.w l.k l.y l.p

abbrev pub decreases-loop-p : goal.decreases-loop-p
decreases-loop-p l = length l.w - l.p
