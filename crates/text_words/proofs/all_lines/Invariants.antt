-- `text_words::all_lines` meets its contract: line by line.
use Prim.Native.Nat.{◌-◌}
use lib.ListN.{length}
use Rattle.language.specs.Limits.{desk}
use Rattle.text_words.proofs.Lines.{Going}
use Rattle.text_words.proofs.all_lines.Given as goal

abbrev pub invariant-loop-t : goal.invariant-loop-t
invariant-loop-t l = Going desk l.text l.names l.initial.room l.first l.at l.i l.k l.room

abbrev pub decreases-loop-t : goal.decreases-loop-t
decreases-loop-t l = length l.text - l.at
