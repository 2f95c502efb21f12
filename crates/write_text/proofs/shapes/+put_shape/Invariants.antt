-- The expression at a place is written by recursion over its parts; the words left fall.
use Prim.Native.Nat.{◌-◌}
use lib.ListN.{length}
use Rattle.write_text.proofs.shapes.+put_shape.Given as goal

abbrev pub decreases-put_shape : goal.decreases-put_shape
decreases-put_shape l = length l.w.now - l.at
