-- `patterns::even` meets its contract.
use Rattle.patterns.proofs.Turns.{whole-even, whole-odd}
use Rattle.patterns.proofs.even.Goals as goal

pub returns-then-bytes-eq0 : goal.returns-then-bytes-eq0
returns-then-bytes-eq0 c = whole-even _ c.if-bytes-eq0.true

pub returns : goal.returns
returns c = whole-odd _ c.if-bytes-eq0.false
