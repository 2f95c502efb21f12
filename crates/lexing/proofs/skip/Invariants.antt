-- `lexing::skip` meets its contract: along the blanks.
use Rattle.grammar.specs.Tokens.{blank}
use Rattle.lexing.proofs.Laws.{Walk}
use Rattle.lexing.proofs.skip.Given as goal

abbrev pub invariant-loop-i : goal.invariant-loop-i
invariant-loop-i l = Walk blank l.text l.at l.i
