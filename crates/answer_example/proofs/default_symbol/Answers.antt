-- The first symbol for old sheets, and else the last.
use native.Mathlib.Omega.{arith}
use Rattle.answer_example.proofs.Defaults.{first-symbol, last-symbol}
use Rattle.answer_example.proofs.default_symbol.Goals as goal

pub returns-then-old : goal.returns-then-old
returns-then-old c = (omega arith, λ n e. first-symbol c.if-old.true n)

pub returns-else-old : goal.returns-else-old
returns-else-old c = (omega arith, λ n e. last-symbol c.if-old.false n e)
