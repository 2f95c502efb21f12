-- `alike::compare` calls `find` for each tree of the left, `find` calls `fits` for the trees of the right, and `fits` calls `compare` for the children
-- of two trees. The measure is three times the words of the left that are left, and one more for each call at the same place.
use Prim.Native.Nat.{◌+◌, ◌-◌, ◌*◌}
use lib.ListN.{length}
use Rattle.alike.proofs.Finding.{Seeking}
use Rattle.alike.proofs.Comparing.{Comparing}
use Rattle.alike.proofs.+compare_find_fits.Given as goal

abbrev pub decreases-compare : goal.decreases-compare
decreases-compare l = 3 * (length l.w.now - l.i) + 2

abbrev pub invariant-compare-loop-x : goal.invariant-compare-loop-x
invariant-compare-loop-x l = Comparing l.s l.w l.i l.j l.any l.end l.initial.k l.k l.x l.y

abbrev pub decreases-compare-loop-x : goal.decreases-compare-loop-x
decreases-compare-loop-x l = length l.w - l.x

abbrev pub decreases-find : goal.decreases-find
decreases-find l = 3 * (length l.w.now - l.x) + 1

abbrev pub invariant-find-loop-p : goal.invariant-find-loop-p
invariant-find-loop-p l = Seeking l.s l.w l.x l.y l.initial.k l.any l.k l.p

abbrev pub decreases-find-loop-p : goal.decreases-find-loop-p
decreases-find-loop-p l = length l.w - l.p

abbrev pub decreases-fits : goal.decreases-fits
decreases-fits l = 3 * (length l.w.now - l.x)
