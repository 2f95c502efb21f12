-- `prompt::parse` meets its contract: each byte is read, and the end of the text ends the last word.
use Prim.Native.Nat.{◌-◌}
use lib.ListN.{length}
use Rattle.prompt.proofs.Reading.{Going}
use Rattle.prompt.proofs.parse.Given as goal

abbrev pub invariant-loop-at : goal.invariant-loop-at
invariant-loop-at l = Going l.text l.initial.words l.at l.n l.here l.mode l.words

abbrev pub decreases-loop-at : goal.decreases-loop-at
decreases-loop-at l = length l.text - l.at
