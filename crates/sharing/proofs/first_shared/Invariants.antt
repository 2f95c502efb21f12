-- `first_shared`: none of the elements passed is shared.
use Prim.Native.Nat.{◌-◌}
use mathlib.Core.Path.{◌≡◌}
use lib.ListN.{length, get_or}
use Rattle.sharing.specs.Shared.{shared_from}
use Rattle.sharing.proofs.Walks.{Still}
use Rattle.sharing.proofs.first_shared.Given as goal

abbrev pub invariant-loop-x : goal.invariant-loop-x
invariant-loop-x l = (l.x ≡ get_or l.k l.i 0) × Still l.k (λ n i. shared_from n l.k i l.right) l.i (shared_from (length l.k) l.k l.left l.right)

abbrev pub decreases-loop-x : goal.decreases-loop-x
decreases-loop-x l = length l.k - l.i
