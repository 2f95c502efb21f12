-- The proof of `trees::read_expr`, which calls itself: the words left fall.
-- Assumes nothing.
use Prim.Native.Nat.{◌-◌}
use lib.ListN.{length}
use Rattle.trees.proofs.+read_expr.Given as goal

abbrev pub decreases-read_expr : goal.decreases-read_expr
decreases-read_expr l = length l.w.now - l.at
