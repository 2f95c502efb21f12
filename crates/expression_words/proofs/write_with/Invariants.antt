-- `expression_words::write_with` meets its contract: byte by byte, from the last to the first.
use Rattle.language.specs.Limits.{desk}
use Rattle.expression_words.proofs.Steps.{Going}
use Rattle.expression_words.proofs.write_with.Given as goal

abbrev pub invariant-loop-i : goal.invariant-loop-i
invariant-loop-i l = Going desk l.text l.names l.at l.to l.initial.room l.initial.depths l.initial.owed l.i l.s l.room l.depths l.owed

abbrev pub decreases-loop-i : goal.decreases-loop-i
decreases-loop-i l = l.i
