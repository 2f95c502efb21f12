-- `lexing::name_end` meets its contract: along the letters and digits.
use Rattle.grammar.specs.Tokens.{name_byte}
use Rattle.lexing.proofs.Laws.{Walk}
use Rattle.lexing.proofs.name_end.Given as goal

abbrev pub invariant-loop-i : goal.invariant-loop-i
invariant-loop-i l = Walk name_byte l.text l.at l.i
