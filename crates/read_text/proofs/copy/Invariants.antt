-- `read_text::copy` meets its contract: word by word.
use Rattle.read_text.proofs.Leaves.{Copying}
use Rattle.read_text.proofs.copy.Given as goal

abbrev pub invariant-loop-i : goal.invariant-loop-i
invariant-loop-i l = Copying l.words l.initial.room l.n l.i l.room
