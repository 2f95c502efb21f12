-- `text_names::same_name` meets its contract: letter by letter.
use Prim.Native.Nat.{◌-◌}
use lib.ListN.{length}
use Rattle.text_names.proofs.Letters.{Alike}
use Rattle.text_names.proofs.same_name.Given as goal

abbrev pub invariant-loop-i : goal.invariant-loop-i
invariant-loop-i l = Alike l.text l.a l.b l.i l.j

abbrev pub decreases-loop-i : goal.decreases-loop-i
decreases-loop-i l = length l.text - l.i
