-- `member::find` meets its contract: this kind, or one after it. The measure is what is left of the kinds.
use Prim.Native.Nat.{◌-◌}
use Rattle.member.proofs.kinds.+find.Given as goal

abbrev pub decreases-find : goal.decreases-find
decreases-find l = l.top - l.at
