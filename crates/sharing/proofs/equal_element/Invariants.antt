-- `equal_element`: none of the elements passed has the words.
use Prim.Native.Nat.{◌-◌}
use mathlib.Core.Path.{◌≡◌}
use lib.ListN.{length, get_or}
use lib.Seq.{slice}
use Rattle.sharing.specs.Shared.{equal_from}
use Rattle.sharing.proofs.Walks.{Still}
use Rattle.sharing.proofs.equal_element.Given as goal

abbrev pub invariant-loop-x : goal.invariant-loop-x
invariant-loop-x l = (l.x ≡ get_or l.k l.i 0) × Still l.k (λ n i. equal_from n l.k (slice l.from l.to l.k) i) l.i (equal_from (length l.k) l.k (slice l.from l.to l.k) l.at)

abbrev pub decreases-loop-x : goal.decreases-loop-x
decreases-loop-x l = length l.k - l.i
