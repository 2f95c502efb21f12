-- `text_words::conjunction::literals` meets its contract: literal by literal.
use Prim.Native.Nat.{◌-◌}
use lib.ListN.{length}
use Rattle.language.specs.Limits.{desk}
use Rattle.text_words.proofs.Rows.{Going}
use Rattle.text_words.proofs.conjunction.literals.Given as goal

abbrev pub invariant-loop-w : goal.invariant-loop-w
invariant-loop-w l = Going desk l.text l.names l.initial.room l.at l.n l.i l.k l.room

abbrev pub decreases-loop-w : goal.decreases-loop-w
decreases-loop-w l = length l.text - l.i
