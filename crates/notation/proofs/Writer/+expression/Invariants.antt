-- `notation::Writer::expression` meets its contract, by recursion over the parts; the words left fall.
use Rattle.std.proofs.Common.{length, ◌-◌}
use Rattle.notation.proofs.Writer.+expression.Given as goal

abbrev pub decreases-expression : goal.decreases-expression
decreases-expression l = length l.ws.now - l.at
