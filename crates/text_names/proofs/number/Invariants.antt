-- `text_names::number` meets its contract: along the shelf.
use Rattle.language.specs.Limits.{desk}
use Rattle.text_names.proofs.Shelving.{Looking}
use Rattle.text_names.proofs.number.Given as goal

abbrev pub invariant-loop-i : goal.invariant-loop-i
invariant-loop-i l = Looking desk l.text l.names l.base l.at l.first l.end l.i
